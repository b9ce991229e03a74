-- What callers see of the places on cells.
use Rattle.std.specs.Prelude.{◌≡◌, ℕ, Bool, true, false, cond, not, ◌==◌, ◌&&◌, ◌||◌, List, [], ◌∷◌, Option, Some, None, is_some, unwrap_or, filter}
use Rattle.std.specs.List.{list_any, flat_map}
use Rattle.std.specs.FinMap as finite
use Rattle.std.specs.FinSet as set
use Rattle.ft_owned_lists.specs.OwnedLists.{Lists, IsOpen}
use Rattle.ft_cells.specs.declared.cell.Cell.{Cell}
use Rattle.ft_posix.specs.Posix.{file_of}
use Rattle.ft_posix.specs.declared.call.Mode.TheVariants.{Read as ReadMode, Write as WriteMode}
use Rattle.ft_lock_rules.specs.declared.line.LockKind.TheVariants.{Held, Retained}
use Rattle.ft_lock_rules.specs.declared.line.LockLine.{LockLine}
use Rattle.ft_lock_rules.specs.declared.lock_modes.LockModes.{LockModes}
use Rattle.ft_lock_rules.specs.LockModes.{has_mark, is_marked, is_marked_of, conflicts_with}
use Rattle.ft_lock_rules.specs.CellLocks.{Owners}
use Rattle.ft_lock_rules.specs.Cells.{Cells, marks_at, released_owner}
use Rattle.ft_lock_rules.specs.Holdings.{Held as HeldPlaces, has_place}
use Rattle.ft_lock_rules.specs.Locks.{LockTable}

-- the line's lock is among the locks of its owner, if it has a place
abbrev pub has_mark_of : Option LockModes → LockLine → Bool
has_mark_of None l = false
has_mark_of (Some marks) l = has_mark marks l.mode l.kind

-- the line's lock is among the locks of its owner on its cell
abbrev pub has_line : Cells → LockLine → Bool
has_line m l = has_mark_of (marks_at m l.cell l.owner) l

-- the owners that have a place on a cell
abbrev pub owners_on : Cells → Cell → List ℕ
owners_on m c = finite.keys (unwrap_or (finite.get m c) finite.empty)

-- any owner has a lock on the cell
abbrev pub is_marked_at : Cells → Cell → Bool
is_marked_at m c = list_any (λ u. is_marked_of (marks_at m c u)) (owners_on m c)

-- by one of these locks the cell may have been emptied
abbrev pub empties : Cell → LockModes → Bool
empties c m = conflicts_with m ReadMode || (is_some (file_of c) && is_marked m)

-- the same, for an owner that may have no place on the cell
abbrev pub empties_of : Cell → Option LockModes → Bool
empties_of c None = false
empties_of c (Some m) = empties c m

-- one of these locks keeps the cell from a sweep: any lock, or one that may have emptied it
abbrev pub keeps_of : Bool → Cell → Option LockModes → Bool
keeps_of true c o = is_marked_of o
keeps_of false c o = empties_of c o

-- a lock of one of these owners keeps the cell from a sweep
abbrev pub is_kept_among : Bool → Cell → Owners → Bool
is_kept_among all c owners = list_any (λ u. keeps_of all c (finite.get owners u)) (finite.keys owners)

-- a lock of any owner keeps the cell from a sweep
abbrev pub is_kept_at : Bool → Cells → Cell → Bool
is_kept_at all m c = is_kept_among all c (unwrap_or (finite.get m c) finite.empty)

-- all possible locks of one owner on a cell
abbrev pub lines_by : Cell → ℕ → List LockLine
lines_by c u =
    record { cell = c; owner = u; mode = ReadMode; kind = Held } ∷ record { cell = c; owner = u; mode = ReadMode; kind = Retained }
    ∷ record { cell = c; owner = u; mode = WriteMode; kind = Held } ∷ record { cell = c; owner = u; mode = WriteMode; kind = Retained } ∷ []

-- all possible locks on a cell of the owners that have a place there
abbrev pub lines_on : Cells → Cell → List LockLine
lines_on m c = flat_map (λ u. lines_by c u) (owners_on m c)

-- What callers see of the places: the locks, the released cells, and the open transactions.
abbrev pub table_of : Cells → Lists Cell → LockTable
table_of m lists = record {
  lines = set.from_list (filter (has_line m) (flat_map (λ c. lines_on m c) (finite.keys m)));
  released_cells = set.from_list (filter (λ c. has_place m c released_owner && not (is_marked_at m c)) (finite.keys m));
  opened = set.from_list (filter (λ u. not (u == released_owner)) (finite.keys lists));
  keeps_all = false;
}

-- the same for places that are found both by cell and by owner
abbrev pub locks_in : HeldPlaces → LockTable
locks_in held = table_of held.cells held.lists

-- the same without the list of an owner
abbrev pub locks_without : HeldPlaces → ℕ → LockTable
locks_without held owner = table_of held.cells (finite.remove held.lists owner)

-- each transaction that has a place on a cell has a lock there, and the owner of the released cells
-- has no lock
pub record IsKept (m : Cells) (lists : Lists Cell) : Type 0 where
  pub marked : (c : Cell) (u : ℕ) → (u == released_owner) ≡ false → has_place m c u ≡ true → is_marked_of (marks_at m c u) ≡ true
  pub unmarked : (c : Cell) → is_marked_of (marks_at m c released_owner) ≡ false
  pub ready : IsOpen lists released_owner
