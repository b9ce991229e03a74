use Rattle.std.proofs.Common.{◌<◌, ℕ}
use Rattle.std.specs.Option.{IsSomeAnd}
use Rattle.slab.specs.Slab.{get}
use Rattle.ft_locks.specs.BulkReleased.{IsAllOf}
use Rattle.ft_locks.proofs.cells.are_only_of.Given as goal

-- it is so under each key that was looked at
abbrev pub invariant-loop-key : goal.invariant-loop-key
invariant-loop-key l = (k : ℕ) → k < l.key → IsSomeAnd (get l.locked k) (λ there. IsAllOf l.owner there.holders)
