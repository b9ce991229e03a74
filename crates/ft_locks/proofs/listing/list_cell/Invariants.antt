use Rattle.std.proofs.Common.{◌≡◌, ◌+◌, take}
use Rattle.std.specs.List.{count_by}
use Rattle.ft_lock_rules.specs.declared.line.LockLine.{LockLine}
use Rattle.ft_lock_rules.specs.Listing.{times_listed, is_by}
use Rattle.ft_locks.proofs.listing.list_cell.Given as goal

abbrev pub invariant-loop-holding : goal.invariant-loop-holding
invariant-loop-holding l = (x : LockLine) → times_listed l.lines.items x ≡ times_listed l.initial.lines.items x + count_by (is_by l.cell x) (take l.holding-index l.list)
