use Rattle.std.proofs.Common.{◌≡◌, ◌≤◌, ◌+◌, ◌++◌, replicate, length}
use Rattle.std.specs.Prelude.{vec_capacity}
use Rattle.ft_paged.specs.Paged.{blank}
use Rattle.ft_paged.proofs.group.add_pages.Given as goal

-- so many pages have been made, and there is room for the others
abbrev pub invariant-loop : goal.invariant-loop
invariant-loop g l = record {
  made : l.pages.items ≡ l.fn.pages.items ++ replicate l.counter blank;
  room : length l.fn.pages.items + l.count ≤ vec_capacity l.pages;
}
