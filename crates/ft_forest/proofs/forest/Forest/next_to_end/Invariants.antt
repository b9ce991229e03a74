use Rattle.std.proofs.Common.{◌≡◌, ◌<◌, ◌-◌, Some, true, length}
use Rattle.ft_forest.specs.declared.state.State.TheVariants.{Live}
use Rattle.ft_forest.specs.Transactions.{over_in}
use Rattle.ft_forest.specs.Records.{links_of, number_at}
use Rattle.ft_forest.proofs.forest.Forest.next_to_end.Given as goal

-- the place is that of a live transaction at or below the one asked for
abbrev pub invariant-loop-child : goal.invariant-loop-child
invariant-loop-child l = record {
  within : l.place < length l.self-inside.records.list.items;
  live : (links_of l.self-inside.records).state l.place ≡ Some Live;
  below : over_in l.self l.fn.txn (number_at l.self-inside.base l.place) ≡ true;
}

abbrev pub decreases-loop-child : goal.decreases-loop-child
decreases-loop-child l = length l.self-inside.records.list.items - l.place
