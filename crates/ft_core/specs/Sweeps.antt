-- The places of a core's tree that a sweep leaves.
use Rattle.std.specs.Prelude.{◌≡◌, true, false}
use Rattle.ft_cells.specs.declared.cell.Cell.{Cell}
use Rattle.ft_cells.specs.CellOrder.{same_cell}
use Rattle.ft_cells.specs.Cells.{Cells}
use Rattle.ft_tree.specs.Sweep.{is_useless, at_place}
use Rattle.ft_lock_rules.specs.declared.line.LockLine.{LockLine}
use Rattle.ft_lock_rules.specs.Law.{is_lock}
use Rattle.ft_core.specs.States.{State, history}

-- No place is empty, and each file and each directory that is stored is there
-- (POSIX.1-2017, unlink, rmdir and close).
abbrev pub HasNoUselessPlace : Cells → Type 0
HasNoUselessPlace cells = (c : Cell) → is_useless cells c ≡ false

-- Each place of no use has a lock of the history on one of its cells, so that an undo or an abort
-- may need it (Moss 1981, holding and retaining).
abbrev pub EachUselessIsLocked : State → Cells → Type 0
EachUselessIsLocked s cells = (c : Cell) → is_useless cells c ≡ true → (lock : LockLine) × (is_lock (history s) lock ≡ true) × (at_place (same_cell lock.cell) c ≡ true)
