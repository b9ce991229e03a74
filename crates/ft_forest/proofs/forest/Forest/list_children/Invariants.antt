use Rattle.ft_forest.specs.Places.{number_of}
use Rattle.ft_forest.proofs.Listing.{AreChildrenTo, after_next}
use Rattle.ft_forest.proofs.forest.Forest.list_children.Given as goal

-- the children that are younger than the next one are listed
abbrev pub invariant-loop-next : goal.invariant-loop-next
invariant-loop-next l = AreChildrenTo l.self (number_of l.self l.fn.parent) (number_of l.self l.next) l.fn.live.items l.live.items

abbrev pub decreases-loop-next : goal.decreases-loop-next
decreases-loop-next l = after_next l.next
