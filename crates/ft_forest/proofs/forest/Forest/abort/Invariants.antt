use Rattle.ft_forest.specs.Transactions.{IsAborting, IsLastOf, live_count}
use Rattle.ft_forest.proofs.forest.Forest.abort.Given as goal

-- an abort is on its way
abbrev pub invariant-loop-next : goal.invariant-loop-next
invariant-loop-next l = record {
  aborting : IsAborting l.fn.self l.self l.fn.txn;
  last : IsLastOf l.self l.fn.txn l.last;
}

abbrev pub decreases-loop-next : goal.decreases-loop-next
decreases-loop-next l = live_count l.self
