use Rattle.std.proofs.Common.{◌≡◌, ◌++◌}
use Rattle.std.specs.FinMap as finite
use Rattle.std.specs.Map.{keys_of}
use Rattle.std.specs.Vec.Iter.{into_iter_items}
use Rattle.ft_base.specs.Pairs.{shown}
use Rattle.ft_locks.proofs.blocking.sorted_owners.Given as goal

-- the owners so far and those that are left are all
abbrev pub invariant-loop-owner : goal.invariant-loop-owner
invariant-loop-owner l =
    (goal.iterator-loop-owner).can_next l.owner-iterator × (goal.iterator-loop-owner).is_finite l.owner-iterator
    × (l.owners.items ++ keys_of (shown (into_iter_items l.owner-iterator)) ≡ finite.keys l.found)
