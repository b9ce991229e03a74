use Rattle.std.proofs.Common.{◌≡◌, ◌++◌}
use Rattle.std.specs.FinMap as finite
use Rattle.std.specs.Vec.Iter.{into_iter_items}
use Rattle.ft_base.specs.Pairs.{shown}
use Rattle.ft_waits.proofs.walk.Walk.ranks_list.Given as goal

-- the ranks so far and those that are left are all
abbrev pub invariant-loop-txn : goal.invariant-loop-txn
invariant-loop-txn l =
    (goal.iterator-loop-txn).can_next l.txn-iterator × (goal.iterator-loop-txn).is_finite l.txn-iterator
    × (l.list.items ++ shown (into_iter_items l.txn-iterator) ≡ finite.entries l.self.ranks)
