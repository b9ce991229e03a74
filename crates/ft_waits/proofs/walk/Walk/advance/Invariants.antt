use Rattle.std.proofs.Common.{◌≡◌, ◌-◌}
use Rattle.ft_waits.specs.Walk.{IsStep}
use Rattle.ft_waits.proofs.walk.Walk.advance.Given as goal

abbrev pub invariant-loop-top : goal.invariant-loop-top
invariant-loop-top l = record {
  txn : l.top.txn ≡ l.initial.top.txn;
  step : IsStep l.self.edges.now l.self.ranks l.top;
}

abbrev pub decreases-loop-top : goal.decreases-loop-top
decreases-loop-top l = l.top.end - l.top.next
