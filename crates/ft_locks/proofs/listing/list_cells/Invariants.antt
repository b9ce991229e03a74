use Rattle.std.proofs.Common.{◌≡◌, ◌+◌}
use Rattle.std.specs.List.{count_by}
use Rattle.ft_lock_rules.specs.declared.line.LockLine.{LockLine}
use Rattle.ft_lock_rules.specs.Listing.{times_listed}
use Rattle.ft_locks.specs.Slots.{is_on}
use Rattle.ft_locks.proofs.listing.list_cells.Given as goal

-- what is listed so far and what is on the cells left are all
abbrev pub invariant-loop-locked : goal.invariant-loop-locked
invariant-loop-locked l = (x : LockLine) → times_listed l.lines.items x + count_by (λ p. is_on x p.1) l.locked-iterator ≡ times_listed l.initial.lines.items x + count_by (λ p. is_on x p.1) l.initial.locked-iterator
