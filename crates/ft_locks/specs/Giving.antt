-- What the accesses of an owner add to the places on cells and to the locks.
use Rattle.std.specs.Prelude.{◌≡◌, ◌==◌, ◌&&◌, ◌||◌, ℕ, List}
use Rattle.ft_cells.specs.declared.cell.Cell.{Cell}
use Rattle.ft_posix.specs.declared.call.Access.{Access}
use Rattle.ft_lock_rules.specs.declared.line.LockLine.{LockLine}
use Rattle.ft_lock_rules.specs.Cells.{Cells}
use Rattle.ft_lock_rules.specs.Holdings.{has_place}
use Rattle.ft_lock_rules.specs.Locks.{is_held, is_given, is_accessed, has_access}
use Rattle.ft_lock_rules.specs.Seen.{has_line}

-- the locks are the same, except those that the owner holds by these accesses
abbrev pub KeepsOtherLines : Cells → Cells → ℕ → List Access → Type 0
KeepsOtherLines old new owner accesses = (l : LockLine) → (has_line new l || is_given owner accesses l) ≡ (has_line old l || is_given owner accesses l)

-- the owner gets a place on each cell that is accessed, and each place from before is kept
abbrev pub AddsPlaces : Cells → Cells → ℕ → List Access → Type 0
AddsPlaces old new owner accesses = (c : Cell) (u : ℕ) → has_place new c u ≡ (has_place old c u || ((u == owner) && is_accessed accesses c))

-- the owner gets the locks of these accesses on all cells on which it has a place, and each lock
-- from before is kept
abbrev pub AddsLinesAtPlaces : Cells → Cells → ℕ → List Access → Type 0
AddsLinesAtPlaces old new owner accesses =
    (l : LockLine) → has_line new l ≡ (has_line old l || (has_place old l.cell l.owner && is_held l.kind && (l.owner == owner) && has_access accesses l.cell l.mode))
