-- The cells in the table: a slab stores each under its key, and an index has the key of each.
use Rattle.std.specs.Prelude.{◌≡◌, ◌↔◌, ◌&&◌, ℕ, Bool, true, false, cond, List, map, Option, Some, None}
use Rattle.std.specs.Ordering.{nat_cmp}
use Rattle.std.specs.FinMap as finite
use Rattle.std.specs.Map.{lookup}
use Rattle.slab.specs.Slab.{Slab, get, entries}
use Rattle.ft_cells.specs.declared.cell.Cell.{Cell}
use Rattle.ft_cells.specs.declared.cell.Cell.TheVariants.{Entry, Names, Parent, Links, Bytes, Fd, DirAttributes, FileAttributes}
use Rattle.ft_cells.specs.CellOrder.{same_cell}
use Rattle.ft_locks.specs.declared.cells.Locked.{Locked}
use Rattle.ft_lock_rules.specs.CellLocks.{Owners}
use Rattle.ft_lock_rules.specs.declared.line.LockLine.{LockLine}
use Rattle.ft_lock_rules.specs.Seen.{has_mark_of}
use Rattle.ft_lock_rules.specs.Cells.{Cells, CellKeys, Keyed}
use Rattle.ft_locks.specs.Hashes.{AreHashed}
use Rattle.ft_locks.specs.EntryKeys.{EntryKeys, key_at, spot_of, same_spot}

-- the holders of the cell under a key, if there is one
abbrev pub owners_of : Option Locked → Owners
owners_of None = finite.empty
owners_of (Some locked) = locked.holders

-- for each cell of the index the holders under its key
abbrev pub cells_of : Slab Locked → List (Cell × ℕ) → Cells
cells_of s index = finite.from_entries (map (λ e. (e.0, owners_of (get s e.1))) index)

-- the cell under each key
abbrev pub at_of : Slab Locked → CellKeys
at_of s = finite.from_entries (map (λ e. (e.0, e.1.cell)) (entries s))

-- each cell with its key
abbrev pub keys_in : CellKeys → List (Cell × ℕ)
keys_in at = map (λ e. (e.1, e.0)) (finite.entries at)

-- what callers see: the cells with their holders, and the key of each
abbrev pub keyed_of : Slab Locked → Keyed
keyed_of s = record { cells = cells_of s (keys_in (at_of s)); at = at_of s }

-- the index has a key for a cell exactly if the cell is stored under that key
abbrev pub AreKeyed : CellKeys → List (Cell × ℕ) → Type 0
AreKeyed at index = (c : Cell) (key : ℕ) → (lookup (same_cell c) index ≡ Some key) ↔ (finite.get at key ≡ Some c)

-- the directory and the place in its list of the cell's key, if the cell is an entry
abbrev pub spot_in : Option Locked → Option (ℕ × ℕ)
spot_in None = None
spot_in (Some locked) = spot_of locked.cell locked.place

-- a directory's list has a key at a place exactly if the key's cell is an entry there that knows
-- the place
abbrev pub ArePlacedBy : (ℕ → Option Locked) → (ℕ × ℕ → Option ℕ) → Type 0
ArePlacedBy at keys = (t : ℕ × ℕ) (key : ℕ) → (keys t ≡ Some key) ↔ (spot_in (at key) ≡ Some t)

-- the lists of all directories have exactly the keys of their entries, each at the place that its
-- entry knows
abbrev pub ArePlaced : (ℕ → Option Locked) → EntryKeys → Type 0
ArePlaced at keys = ArePlacedBy at (λ t. key_at keys t.0 t.1)

-- the lists of all directories are so except at one place, whose key is no longer of any cell
abbrev pub HaveGap : (ℕ → Option Locked) → EntryKeys → ℕ → ℕ → Type 0
HaveGap at keys dir place = ArePlacedBy at (λ t. cond (same_spot (dir, place) t) None (key_at keys t.0 t.1))

-- what callers see of it: the cell and its holders
abbrev pub shown : Option Locked → Option (Cell × Owners)
shown None = None
shown (Some locked) = Some (locked.cell, locked.holders)

-- each key has the cell with the holders that it had
abbrev pub ShowSame : (ℕ → Option Locked) → (ℕ → Option Locked) → Type 0
ShowSame old new = (key : ℕ) → shown (new key) ≡ shown (old key)

-- the cell under a key, if there is one, knows this place
abbrev pub with_place : ℕ → Option Locked → Option Locked
with_place place None = None
with_place place (Some locked) = Some (record locked { place = place })

-- the cell is the names of a directory
abbrev pub is_names : Cell → Bool
is_names (Names d) = true
is_names (Entry entry) = false
is_names (Parent d) = false
is_names (Links i) = false
is_names (Bytes i) = false
is_names (Fd f) = false
is_names (DirAttributes d) = false
is_names (FileAttributes i) = false

-- the names of no directory are in the table
abbrev pub HaveNoNames : CellKeys → Type 0
HaveNoNames at = (key : ℕ) (c : Cell) → finite.get at key ≡ Some c → is_names c ≡ false

-- the line's lock is one of the owners' on the cell
abbrev pub is_on : LockLine → Locked → Bool
is_on l locked = same_cell l.cell locked.cell && has_mark_of (finite.get locked.holders l.owner) l

-- the invariant of a table: no cell is in the slab twice, and the index and the lists of entries
-- have exactly its cells; if the flag is false, the names of no directory are among them
pub record AreKept (s : Slab Locked) (index : finite.FinMap nat_cmp ℕ) (seed : ℕ) (entries : EntryKeys) (has_names : Bool) : Type 0 where
  pub keyed : AreKeyed (at_of s) (keys_in (at_of s))
  pub hashed : AreHashed index seed (at_of s)
  pub placed : ArePlaced (get s) entries
  pub nameless : has_names ≡ false → HaveNoNames (at_of s)
