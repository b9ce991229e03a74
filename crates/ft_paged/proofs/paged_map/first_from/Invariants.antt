use Rattle.std.proofs.Common.{◌≡◌, ◌≤◌, ◌+◌, ◌*◌, ℕ, drop}
use Rattle.ft_paged.specs.declared.TheConstants.{GROUP_LEN}
use Rattle.ft_paged.specs.Paged.{numbered, joined_places}
use Rattle.ft_paged.proofs.paged_map.first_from.Given as goal

-- no number from the first one on has had a value so far
abbrev pub invariant-loop-group : goal.invariant-loop-group
invariant-loop-group g l = record {
  passed : (base : ℕ) → numbered (base + l.fn.from) (drop l.fn.from (joined_places l.groups)) ≡ numbered (base + (GROUP_LEN * l.group + l.from)) (drop (GROUP_LEN * l.group + l.from) (joined_places l.groups));
  within : l.from ≤ GROUP_LEN;
}
