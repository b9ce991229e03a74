use Rattle.std.proofs.Common.{◌≡◌, ◌≤◌, ◌+◌, ◌++◌, replicate, None, length}
use Rattle.std.specs.Prelude.{vec_capacity}
use Rattle.ft_paged.specs.declared.TheConstants.{PAGE_LEN}
use Rattle.ft_paged.proofs.page.add_places.Given as goal

-- so many places have been made, and there is room for the others
abbrev pub invariant-loop : goal.invariant-loop
invariant-loop g l = record {
  made : l.places.items ≡ l.fn.places.items ++ replicate l.counter None;
  room : length l.fn.places.items + PAGE_LEN ≤ vec_capacity l.places;
}
