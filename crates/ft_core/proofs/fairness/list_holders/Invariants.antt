use Rattle.std.proofs.Common.{◌≡◌, ◌++◌}
use Rattle.std.specs.FinMap as finite
use Rattle.std.specs.Vec.Iter.{into_iter_items}
use Rattle.ft_base.specs.Pairs.{shown}
use Rattle.ft_core.specs.Fairness.{holders_of}
use Rattle.ft_core.proofs.fairness.list_holders.Given as goal

-- what is listed so far and those of the asks left that hold the call back are all
abbrev pub invariant-loop-txn : goal.invariant-loop-txn
invariant-loop-txn l =
    (goal.iterator-loop-txn).can_next l.txn-iterator × (goal.iterator-loop-txn).is_finite l.txn-iterator
    × (l.list.items ++ holders_of l.behind.ahead.now l.core.state l.behind.txn l.behind.touched.now (shown (into_iter_items l.txn-iterator)) ≡ l.initial.list.items ++ holders_of l.behind.ahead.now l.core.state l.behind.txn l.behind.touched.now (finite.entries l.asks))
