use Rattle.std.proofs.Common.{◌≡◌, ◌++◌, map}
use Rattle.std.specs.FinMap as finite
use Rattle.std.specs.Vec.Iter.{into_iter_items}
use Rattle.ft_base.specs.Pairs.{shown}
use Rattle.ft_laws.specs.Lists.{Each}
use Rattle.ft_core.specs.Reports.{HasRisingBlockers, waits_from, as_wait}
use Rattle.ft_core.proofs.reports.list_pending.Given as goal

-- what is listed so far and the asks left are all, and what is listed has its blockers in rising
-- order if what was there has
abbrev pub invariant-loop-txn : goal.invariant-loop-txn
invariant-loop-txn l =
    (goal.iterator-loop-txn).can_next l.txn-iterator × (goal.iterator-loop-txn).is_finite l.txn-iterator
    × (map as_wait l.list.items ++ waits_from l.core.state (shown (into_iter_items l.txn-iterator)) ≡ map as_wait l.initial.list.items ++ waits_from l.core.state (finite.entries l.asks))
    × (Each HasRisingBlockers l.initial.list.items → Each HasRisingBlockers l.list.items)
