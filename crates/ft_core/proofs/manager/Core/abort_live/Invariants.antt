use Rattle.ft_forest.specs.Transactions.{IsLastOf, live_count}
use Rattle.ft_core.specs.Histories.{told}
use Rattle.ft_core.proofs.Aborts.{IsAbortOf}
use Rattle.ft_core.proofs.Tallies.{AreEnded}
use Rattle.ft_core.proofs.manager.Core.abort_live.Given as goal

-- the abort is on its way, and so many calls are taken back and so many transactions are ended
abbrev pub invariant-loop-next : goal.invariant-loop-next
invariant-loop-next l = record {
  way : IsAbortOf l.initial.self-inside.parts.tree l.initial.self-inside.parts.forest l.initial.self-inside.parts.locks l.initial.self-inside.parts.logs l.initial.self-inside.journal l.fn.txn l.calls
      l.self-inside.parts.tree l.self-inside.parts.forest l.self-inside.parts.locks l.self-inside.parts.logs l.self-inside.journal;
  last : IsLastOf l.self-inside.parts.forest l.fn.txn l.last;
  ended : AreEnded (told l.initial.self-inside.journal.events) l.fn.txn l.initial.self-inside.parts.forest l.self-inside.parts.forest l.transactions;
}

abbrev pub decreases-loop-next : goal.decreases-loop-next
decreases-loop-next l = live_count l.self-inside.parts.forest
