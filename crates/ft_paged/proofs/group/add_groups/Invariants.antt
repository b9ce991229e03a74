use Rattle.std.proofs.Common.{◌≡◌, ◌≤◌, ◌+◌, ◌++◌, replicate, length}
use Rattle.std.specs.Prelude.{vec_capacity}
use Rattle.ft_paged.specs.Paged.{blank_group}
use Rattle.ft_paged.proofs.group.add_groups.Given as goal

-- so many groups have been made, and there is room for the others
abbrev pub invariant-loop : goal.invariant-loop
invariant-loop g l = record {
  made : l.groups.items ≡ l.fn.groups.items ++ replicate l.counter blank_group;
  room : length l.fn.groups.items + l.count ≤ vec_capacity l.groups;
}
