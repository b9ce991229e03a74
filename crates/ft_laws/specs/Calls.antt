-- Calls in the abstract: a store is seen cell by cell, and a call reads some cells and writes some.
-- (A rule of this project. Moss, Nested Transactions, MIT 1981, calls a cell an object: it is
-- locked, read and written.)
use Rattle.std.specs.Prelude.{◌≡◌, ℕ, Bool, true, cond, Option}

-- A store, its cells, and the calls on it.
pub record Calls : Type 1 where
  pub Store : Type 0
  pub Cell : Type 0
  -- what a cell may hold
  pub Value : Cell → Type 0
  -- a call together with its stamp
  pub Call : Type 0
  pub Reply : Type 0
  -- which cells a call reads and which it writes
  pub Accesses : Type 0
  -- undoes a call: it puts back the cells that the call wrote
  pub Inverse : Type 0
  pub File : Type 0
  pub cell : Store → (x : Cell) → Value x
  -- a number that no other call has
  pub stamp : Call → ℕ
  -- what the call does in a store: the store after it, its reply, its accesses, and its inverse
  pub act : Store → Call → Store
  pub reply : Store → Call → Reply
  pub accesses : Store → Call → Accesses
  pub inverse : Store → Call → Inverse
  pub revert : Store → Inverse → Store
  -- what the store must meet for the inverse to be put to it, as code requires that overwrites
  -- bytes in place
  pub MayRevert : Store → Inverse → Type 0
  -- the cell is read or written; the cell is written
  pub touches : Accesses → Cell → Bool
  pub changes : Accesses → Cell → Bool
  -- both access something in common that one of them writes (Moss 1981, the locking rules: read
  -- locks are compatible with each other, a write lock with no other)
  pub conflict : Accesses → Accesses → Bool
  -- holds of a store at all times (for a file tree POSIX.1-2017, section 3, File Hierarchy)
  pub IsSound : Store → Type 0
  -- the call may be made in the store: the stamp numbers whatever the call makes, and nothing
  -- stored has that number (a rule of this project)
  pub IsReady : Call → Store → Type 0
  -- the file to which the cell belongs, as the bytes and the count of links of a file do; an entry
  -- or a descriptor belongs to none
  pub file_of : Cell → Option File
  -- a value names a file, as an entry or a descriptor does (POSIX.1-2017, section 3, Directory
  -- Entry and Open File Description)
  pub names : (x : Cell) → Value x → File → Bool
  -- what a cell holds if nothing is stored
  pub blank : (x : Cell) → Value x
  -- the file that the call makes, if it makes one
  pub own : Call → File

module _ (C : Calls) where
  -- equal in each cell
  abbrev pub Same : C.Store → C.Store → Type 0
  Same s t = (x : C.Cell) → C.cell s x ≡ C.cell t x

  -- equal in the cells that are read or written
  abbrev pub Agree : C.Accesses → C.Store → C.Store → Type 0
  Agree f s t = (x : C.Cell) → C.touches f x ≡ true → C.cell s x ≡ C.cell t x

  -- new is t, but the cells that f writes have their values from s
  abbrev pub PutBack : C.Accesses → C.Store → C.Store → C.Store → Type 0
  PutBack f s t new = (x : C.Cell) → C.cell new x ≡ cond (C.changes f x) (C.cell s x) (C.cell t x)

  -- The cells that f writes are in t as they are in s.
  abbrev pub IsAsLeft : C.Accesses → C.Store → C.Store → Type 0
  IsAsLeft f s t = (x : C.Cell) → C.changes f x ≡ true → C.cell t x ≡ C.cell s x

  -- The inverse u of the call a, made in s with the accesses f: u may be put to each store whose
  -- cells that a writes are as a left them. It gives these cells their values from before a, and
  -- changes no other. (Moss 1981, state restoration: an object that an aborted transaction wrote
  -- gets back its earlier version.)
  abbrev pub Reverts : C.Store → C.Call → C.Accesses → C.Inverse → Type 0
  Reverts s a f u = (t : C.Store) → IsAsLeft f (C.act s a) t → C.MayRevert t u × PutBack f s t (C.revert t u)

  -- The record of a call that was granted. (A rule of this project: its inverse is not kept, so
  -- that what happened can be described without it.)
  pub record Done : Type 0 where
    -- the number of the transaction that asked for it
    pub asker : ℕ
    pub call : C.Call
    pub accesses : C.Accesses
    pub reply : C.Reply

  -- The call, made in s, has the accesses and the reply that are kept of it.
  pub record Fits (s : C.Store) (c : Done) : Type 0 where
    pub accesses : C.accesses s c.call ≡ c.accesses
    pub reply : C.reply s c.call ≡ c.reply

  -- the record of the call a, made in s for the transaction t
  abbrev pub made : C.Store → ℕ → C.Call → Done
  made s t a = record { asker = t; call = a; accesses = C.accesses s a; reply = C.reply s a }
