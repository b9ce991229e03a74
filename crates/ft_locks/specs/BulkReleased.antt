-- The cells that were released all at once and are not reported yet.
use Rattle.std.specs.Prelude.{◌≡◌, ◌<◌, ◌&&◌, ℕ, Bool, true, not, List, [], ◌∷◌, cond, drop, filter, None, Some, IsSome}
use Rattle.std.specs.List.{list_any}
use Rattle.std.specs.FinMap as finite
use Rattle.std.specs.FinSet as set
use Rattle.slab.specs.Slab.{Slab, get, entries_from}
use Rattle.ft_cells.specs.declared.cell.Cell.{Cell}
use Rattle.ft_cells.specs.CellOrder.{same_cell}
use Rattle.ft_lock_rules.specs.CellLocks.{Owners}
use Rattle.ft_lock_rules.specs.Seen.{is_kept_among}
use Rattle.ft_lock_rules.specs.Locks.{LockTable, is_locked}
use Rattle.ft_lock_rules.specs.Knowing.{is_known}
use Rattle.ft_locks.specs.declared.cells.Locked.{Locked}

-- some owner has a lock that keeps the cell from a sweep: any lock, or one that may have emptied it
abbrev pub has_keeper : Bool → Locked → Bool
has_keeper all l = is_kept_among all l.cell l.holders

-- no owner but this one has a place
abbrev pub IsAllOf : ℕ → Owners → Type 0
IsAllOf owner owners = (u : ℕ) → finite.get (finite.remove owners owner) u ≡ None

-- the cells that some lock kept from a sweep when they were released
abbrev pub left_in : Bool → List (ℕ × Locked) → List Cell
left_in all [] = []
left_in all (e ∷ bulk) = cond (has_keeper all e.1) (e.1.cell ∷ left_in all bulk) (left_in all bulk)

-- the cell is one of them
abbrev pub is_left : Bool → List (ℕ × Locked) → Cell → Bool
is_left all bulk c = list_any (same_cell c) (left_in all bulk)

-- some lock kept the cell from a sweep when it was released, and the table has it neither locked
-- nor released
abbrev pub is_unreported : Bool → LockTable → Locked → Bool
is_unreported all t l = has_keeper all l && not (is_known t l.cell)

-- the cell under a key is this one, and unreported
abbrev pub IsUnreportedAt : Bool → LockTable → Slab Locked → ℕ → Cell → Type 0
IsUnreportedAt all t s key cell = (l : Locked) × (get s key ≡ Some l) × (l.cell ≡ cell) × (is_unreported all t l ≡ true)

-- the table in which, in addition, those of these cells are released that are not locked
abbrev pub with_bulk : Bool → List (ℕ × Locked) → LockTable → LockTable
with_bulk all bulk t = record t { released_cells = set.union t.released_cells (set.from_list (filter (λ c. not (is_locked t c)) (left_in all bulk))) }

-- The same table, in which each lock keeps its cell from a sweep, or only those that may have
-- emptied it.
abbrev pub seen_as : Bool → LockTable → LockTable
seen_as all t = record t { keeps_all = all }

-- the cells in the slab under the keys from `next` on
abbrev pub left_from : ℕ → Slab Locked → List (ℕ × Locked)
left_from next s = entries_from next (drop next s.slots)

-- each cell is stored under a key below the end
abbrev pub EndBefore : Slab Locked → ℕ → Type 0
EndBefore s end = (k : ℕ) → IsSome (get s k) → k < end

-- the cell is no longer among the released cells, and nothing else has changed
abbrev pub IsTaken : LockTable → LockTable → Cell → Type 0
IsTaken old new cell = new ≡ record old { released_cells = set.remove old.released_cells cell }
