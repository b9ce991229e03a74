use Rattle.std.proofs.Common.{◌≡◌, ◌++◌, map}
use Rattle.std.specs.FinMap as finite
use Rattle.std.specs.Vec.Iter.{into_iter_items}
use Rattle.ft_base.specs.Pairs.{shown}
use Rattle.ft_core.specs.Fairness.{waits_behind_from}
use Rattle.ft_core.specs.Reports.{as_wait}
use Rattle.ft_core.proofs.fairness.list_behind.Given as goal

-- what is listed so far and the asks left are all
abbrev pub invariant-loop-txn : goal.invariant-loop-txn
invariant-loop-txn l =
    (goal.iterator-loop-txn).can_next l.txn-iterator × (goal.iterator-loop-txn).is_finite l.txn-iterator
    × (map as_wait l.list.items ++ waits_behind_from l.core.state l.queue (shown (into_iter_items l.txn-iterator)) ≡ map as_wait l.initial.list.items ++ waits_behind_from l.core.state l.queue (finite.entries l.asks))
