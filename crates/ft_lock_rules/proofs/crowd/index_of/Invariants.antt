use Rattle.std.proofs.Common.{take}
use Rattle.ft_lock_rules.specs.CellLocks.{IsIndexOf}
use Rattle.ft_lock_rules.proofs.crowd.index_of.Given as goal

-- it is the index of those that were come to
abbrev pub invariant-loop-place : goal.invariant-loop-place
invariant-loop-place l = IsIndexOf l.index (take l.place l.list)
