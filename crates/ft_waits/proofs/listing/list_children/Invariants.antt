use Rattle.std.proofs.Common.{◌≡◌, ◌++◌, take, map}
use Rattle.ft_waits.specs.Listing.{child_edge}
use Rattle.ft_waits.proofs.listing.list_children.Given as goal

-- the edges to the children so far are listed
abbrev pub invariant-loop-pair : goal.invariant-loop-pair
invariant-loop-pair l = l.edges.items ≡ l.initial.edges.items ++ map child_edge (take l.pair-index l.pairs)
