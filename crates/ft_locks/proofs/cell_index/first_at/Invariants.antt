use Rattle.std.proofs.Common.{◌≡◌, ℕ, Some}
use Rattle.std.specs.List.{Contains}
use Rattle.std.specs.FinMap as finite
use Rattle.ft_locks.specs.Slots.{at_of}
use Rattle.ft_locks.proofs.cell_index.first_at.Given as goal

-- the cell stands under none of the keys that were come to
abbrev pub invariant-loop-key : goal.invariant-loop-key
invariant-loop-key l = (k : ℕ) → Contains l.fn.keys k → finite.get (at_of l.locked) k ≡ Some l.cell → Contains l.key-iterator k
