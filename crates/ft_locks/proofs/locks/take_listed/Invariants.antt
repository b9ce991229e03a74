use Rattle.std.proofs.Common.{◌≡◌, length}
use Rattle.ft_owned_lists.specs.OwnedLists.{list_in}
use Rattle.ft_lock_rules.specs.Seen.{table_of, IsKept}
use Rattle.ft_locks.proofs.locks.take_listed.Given as goal

abbrev pub invariant-loop-dropped : goal.invariant-loop-dropped
invariant-loop-dropped l = record {
  kept : IsKept l.holdings.cells l.holdings.lists;
  same : table_of l.holdings.cells l.holdings.lists ≡ table_of l.initial.holdings.cells l.initial.holdings.lists;
}

abbrev pub decreases-loop-dropped : goal.decreases-loop-dropped
decreases-loop-dropped l = length (list_in l.holdings.lists 0)
