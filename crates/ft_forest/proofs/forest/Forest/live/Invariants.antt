use Rattle.std.proofs.Common.{◌+◌, ◌-◌}
use Rattle.ft_forest.specs.Transactions.{last_in}
use Rattle.ft_forest.proofs.Listing.{AreListedTo}
use Rattle.ft_forest.proofs.forest.Forest.live.Given as goal

-- the children of all before the index are listed
abbrev pub invariant-loop-index : goal.invariant-loop-index
invariant-loop-index l = AreListedTo l.self l.index l.live.items

abbrev pub decreases-loop-index : goal.decreases-loop-index
decreases-loop-index l = last_in l.self + 1 - l.index
