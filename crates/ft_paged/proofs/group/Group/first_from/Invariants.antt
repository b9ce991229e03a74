use Rattle.std.proofs.Common.{◌≡◌, ◌+◌, ℕ, drop}
use Rattle.ft_paged.specs.Paged.{numbered}
use Rattle.ft_paged.proofs.group.Group.first_from.Given as goal

-- no place from the first one on has had a value so far
abbrev pub invariant-loop-place : goal.invariant-loop-place
invariant-loop-place g l = (base : ℕ) → numbered (base + l.fn.from) (drop l.fn.from l.self) ≡ numbered (base + l.place) (drop l.place l.self)
