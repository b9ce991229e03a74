use Rattle.std.proofs.Common.{◌≡◌, ◌≤◌, take, length}
use Rattle.std.specs.Prelude.{vec_capacity}
use Rattle.ft_paged.proofs.paged_map.PagedMapClone.clone.Given as goal

-- the groups so far, and there is room for the others
abbrev pub invariant-loop-group : goal.invariant-loop-group
invariant-loop-group g l = record {
  made : l.groups.items ≡ take l.group-index l.group-items;
  room : length l.group-items ≤ vec_capacity l.groups;
}
