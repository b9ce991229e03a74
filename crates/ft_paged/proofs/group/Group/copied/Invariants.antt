use Rattle.std.proofs.Common.{◌≡◌, ◌≤◌, take, length}
use Rattle.std.specs.Prelude.{vec_capacity}
use Rattle.ft_paged.proofs.group.Group.copied.Given as goal

-- the pages so far, and there is room for the others
abbrev pub invariant-loop-page : goal.invariant-loop-page
invariant-loop-page g l = record {
  made : l.pages.items ≡ take l.page-index l.page-items;
  room : length l.page-items ≤ vec_capacity l.pages;
}
