-- Each premise is needed: statements that lack a premise, or claim more, each with a call that
-- refutes it. All of them are false of the tiny tree, as public functions of this crate state.
use Rattle.std.specs.Prelude.{◌≡◌, ℕ, Bool, true, false, ◌&&◌, Some, List, [], ◌∷◌, ◌++◌, map, cond, Option, None}
use Rattle.ft_laws.specs.Calls.{Calls, Same, Reverts, Done, Fits}
use Rattle.ft_laws.specs.Laws.{Alike, TouchesFile, is_hidden, Hides}
use Rattle.ft_laws.specs.Effects.{Write, Effects, Has}
use Rattle.ft_laws.specs.Runs.{run, Faithful, Able, Clear, sort_by}
use Rattle.ft_laws.specs.Hiding.{AgreeOff}
use Rattle.ft_laws.specs.Tiny.{Node, Cell, Shows, Place, What, Steps, overlap, replies, inside, rmdir_if, steps, reads, wrote, effect_of, does, tiny, tiny_calls}
use Rattle.ft_laws.specs.Looks.Looks.{Look}
use Rattle.ft_laws.specs.Tiny.Node.{DirNode, FileNode}
use Rattle.ft_laws.specs.Tiny.What.{Rmdir}
use Rattle.ft_laws.specs.Tiny.Reply.{NoEntry, NotDirectory}
use Rattle.ft_laws.specs.Tiny.Cell.{Entry, Links}
use Rattle.ft_laws.specs.Tidying.{TidiedFaithful}
use Rattle.ft_laws.specs.Tiny.Place.{One, Names}

module _ (C : Calls) where
  -- Any two neighbours can be exchanged, even if they conflict.
  abbrev pub ExchangeAny : Type 0
  ExchangeAny = (s : C.Store) (a b : Done C) → Able C s (a ∷ b ∷ []) → Faithful C s (a ∷ b ∷ []) → Faithful C s (b ∷ a ∷ [])

  -- Only what both write is a conflict: a reader may pass a writer. (Refuted by a create and a
  -- stat.)
  abbrev pub ExchangeReaders : Type 0
  ExchangeReaders = (s : C.Store) (a b : Done C) → Able C s (a ∷ b ∷ []) → Faithful C s (a ∷ b ∷ []) → ((x : C.Cell) → C.changes a.accesses x && C.changes b.accesses x ≡ false)
      → Faithful C s (b ∷ a ∷ [])

  -- A call may go first in spite of conflicts with earlier ones.
  abbrev pub GoFirstAny : Type 0
  GoFirstAny = (s : C.Store) (xs : List (Done C)) (a : Done C) (ys : List (Done C)) → Able C s (xs ++ a ∷ ys) → Faithful C s (xs ++ a ∷ ys) → Faithful C s (a ∷ (xs ++ ys))

  -- A call can be left out even if a later one conflicts with it.
  abbrev pub DeleteAny : Type 0
  DeleteAny = (s : C.Store) (xs : List (Done C)) (a : Done C) (ys : List (Done C)) → Able C s (xs ++ a ∷ ys) → Faithful C s (xs ++ a ∷ ys) → Faithful C s (xs ++ ys)

  -- A call that is left out leaves what it wrote in place.
  abbrev pub DeleteForgets : Type 0
  DeleteForgets = (s : C.Store) (xs : List (Done C)) (a : Done C) (ys : List (Done C)) → Able C s (xs ++ a ∷ ys) → Faithful C s (xs ++ a ∷ ys) → Clear C a ys
      → Same C (run C s (xs ++ a ∷ ys)) (run C s (xs ++ ys))

  -- An inverse may be applied even if a later call conflicts with its own.
  abbrev pub UndoAny : Type 0
  UndoAny = (s : C.Store) (xs : List (Done C)) (a : Done C) (ys : List (Done C)) (u : C.Inverse) → Able C s (xs ++ a ∷ ys) → Faithful C s (xs ++ a ∷ ys) → Reverts C (run C s xs) a.call a.accesses u
      → Same C (run C s (xs ++ ys)) (C.revert (run C s (xs ++ a ∷ ys)) u)

  -- Calls may be sorted by any rank.
  abbrev pub SortAny : Type 0
  SortAny = (rank : Done C → ℕ) (s : C.Store) (cs : List (Done C)) → Able C s cs → Faithful C s cs → Faithful C s (sort_by C rank cs)

  -- The frame law for stores that agree on what a call writes. (Refuted by a stat, which writes
  -- nothing.)
  abbrev pub FrameByWrites : Type 0
  FrameByWrites = (s t : C.Store) (a : C.Call) → C.IsSound s → C.IsSound t → C.IsReady a s → C.IsReady a t → ((x : C.Cell) → C.changes (C.accesses s a) x ≡ true → C.cell s x ≡ C.cell t x) → Alike C s t a

  -- Freshness for two calls with the same stamp. (Refuted by a create, which takes the number.)
  abbrev pub ReadyTwice : Type 0
  ReadyTwice = (s : C.Store) (a b : C.Call) → C.IsSound s → C.IsReady a s → C.IsReady b s → C.IsReady b (C.act s a)

  -- A sound store stays sound. (False if a rmdir removes a directory with its entries.)
  abbrev pub StaysSound : Type 0
  StaysSound = (s : C.Store) (a : C.Call) → C.IsSound s → C.IsReady a s → C.IsSound (C.act s a)

  -- The inverse law. (False of an unlink if its inverse is one of the two below.)
  abbrev pub Inverts : Type 0
  Inverts = (s : C.Store) (a : C.Call) → C.IsSound s → C.IsReady a s → Reverts C s a (C.accesses s a) (C.inverse s a)

  -- A call touches a file's cells only if a cell that it touches names the file, even if the file
  -- is its own. (Refuted by a create, whose file nothing names yet.)
  abbrev pub ComesUponNamed : Type 0
  ComesUponNamed = (s : C.Store) (a : C.Call) → C.IsSound s → C.IsReady a s → (x : C.Cell) (i : C.File) → C.file_of x ≡ Some i → C.touches (C.accesses s a) x ≡ true
      → (y : C.Cell) × (C.touches (C.accesses s a) y ≡ true) × (C.names y (C.cell s y) i ≡ true)

  -- A call that removes a file's name touches the file, even if it leaves the name elsewhere.
  -- (Refuted by a rename, which touches neither the links nor the bytes of the file that it moves.)
  abbrev pub LetsGoTouching : Type 0
  LetsGoTouching = (s : C.Store) (a : C.Call) → C.IsSound s → C.IsReady a s → (x : C.Cell) (i : C.File) → C.names x (C.cell s x) i ≡ true → C.names x (C.cell (C.act s a) x) i ≡ false
      → TouchesFile C (C.accesses s a) i

  -- Files stay hidden when a call makes one of them.
  abbrev pub OwnStaysHidden : Type 0
  OwnStaysHidden = (hidden : C.File → Bool) (r s : C.Store) (c : Done C) → Hides C hidden r s → C.IsSound r → C.IsReady c.call r → Fits C s c → Hides C hidden (C.act r c.call) (C.act s c.call)

  -- A call replies the same if files are hidden that something still names.
  abbrev pub HidesNamed : Type 0
  HidesNamed = (hidden : C.File → Bool) (r s : C.Store) (c : Done C) → AgreeOff C hidden r s → ((x : C.Cell) → is_hidden C hidden x ≡ true → C.cell s x ≡ C.blank x)
      → C.IsSound r → C.IsReady c.call r → hidden (C.own c.call) ≡ false → Fits C s c → Fits C r c

  -- A sound store is sound without files that something still names.
  abbrev pub SoundNamed : Type 0
  SoundNamed = (hidden : C.File → Bool) (r s : C.Store) → AgreeOff C hidden r s → ((x : C.Cell) → is_hidden C hidden x ≡ true → C.cell s x ≡ C.blank x) → C.IsSound r → C.IsSound s

  -- Calls run alike even if they touch what is hidden.
  abbrev pub RunAlikeSeen : Type 0
  RunAlikeSeen = (hidden : C.File → Bool) (s t : C.Store) (cs : List (Done C)) → Able C s cs → Able C t cs → AgreeOff C hidden s t → Faithful C s cs → Faithful C t cs

  -- Tidying may remove files that something still names.
  abbrev pub TidyNamed : Type 0
  TidyNamed = (tidy : C.Store → C.Store) (dead : C.Store → C.File → Bool) → ((s : C.Store) → AgreeOff C (dead s) s (tidy s)) → (s : C.Store) (cs : List (Done C)) → Able C s cs → Faithful C s cs
      → TidiedFaithful C tidy s cs

  -- A file may be dropped even if a call that touched it can still be undone. (Refuted by a file
  -- whose unlink is undone.)
  abbrev pub UndoSeen : Type 0
  UndoSeen = (hidden : C.File → Bool) (s : C.Store) (xs : List (Done C)) (a : Done C) (ys : List (Done C)) (u : C.Inverse) (t : C.Store) → Able C s (xs ++ a ∷ ys) → Faithful C s (xs ++ a ∷ ys)
      → Clear C a ys → Reverts C (run C s xs) a.call a.accesses u → Hides C hidden (run C s (xs ++ a ∷ ys)) t → Hides C hidden (run C s (xs ++ ys)) (C.revert t u)

-- The names of a directory do not overlap its entries. The exchange law is false of these calls,
-- for example of a create in a directory and its rmdir.
abbrev pub overlap_alone : Place → Place → Bool
overlap_alone (One x) (Names d) = false
overlap_alone (Names d) (One x) = false
overlap_alone (One x) (One y) = overlap (One x) (One y)
overlap_alone (Names d) (Names e) = overlap (Names d) (Names e)

-- the tiny tree with this overlap
abbrev pub names_alone : Effects
names_alone = record tiny { overlap = overlap_alone }

-- Whatever is written counts as read. The exchange law is false of these calls, for example of two
-- creates of one name.
abbrev pub readers_alone : Effects
readers_alone = record tiny { does = λ s a. let e = does s a in record e { accesses = map (λ b. reads b.place) e.accesses } }

-- A directory is removed with its entries. These calls do not keep trees sound.
abbrev pub remove_full : ℕ → ℕ → Option Node → Steps
remove_full d n None = replies NoEntry
remove_full d n (Some (FileNode i)) = replies NotDirectory
remove_full d n (Some (DirNode i)) = rmdir_if d n i true

-- the calls with such a rmdir
abbrev pub full_steps : ℕ → What → Steps
full_steps k (Rmdir p n) = inside p (λ d. Look (One (Entry d n)) (remove_full d n))
full_steps k w = steps k w

-- the tiny tree with these calls
abbrev pub full_removed : Effects
full_removed = record tiny { does = λ s a. effect_of (full_steps a.stamp a.what) s }

-- A call's own file is not the one that it makes. Files do not stay hidden from these calls.
abbrev pub others_made : Calls
others_made = record tiny_calls { own = λ a. 0 }

-- A cell that is only read, as by a call that fails, is not accessed. The exchange law is false of
-- these calls, for example of a stat that fails and the create of that name.
abbrev pub writers_alone : Effects
writers_alone = record tiny { does = λ s a. let e = does s a in record e { accesses = map wrote e.writes } }

-- the cell is a file's links
abbrev pub is_links : Cell → Bool
is_links (Links i) = true
is_links x = false

-- An inverse that forgets a file's links. The inverse law is false of calls with this inverse.
abbrev pub without_links : List (Write Cell Shows) → List (Write Cell Shows)
without_links [] = []
without_links (w ∷ ws) = cond (is_links w.cell) (without_links ws) (w ∷ without_links ws)

-- the tiny tree with these inverses
abbrev pub links_forgotten : Calls
links_forgotten = record tiny_calls { inverse = λ s a. let u = tiny_calls.inverse s a in record u { before = without_links u.before } }

-- An inverse may be put only if the cells have their values from before the call. The inverse law
-- is false of these calls.
abbrev pub asks_for_before : Calls
asks_for_before = record tiny_calls { MayRevert = λ s u. Has tiny s u.before }
