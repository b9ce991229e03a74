use Rattle.std.proofs.Common.{◌≡◌, ◌++◌, take}
use Rattle.ft_waits.specs.Listing.{lock_edges}
use Rattle.ft_waits.proofs.listing.list_wait.Given as goal

-- the edges to the blockers so far are listed
abbrev pub invariant-loop-to : goal.invariant-loop-to
invariant-loop-to l = l.edges.items ≡ l.initial.edges.items ++ lock_edges (l.wait.txn, take l.to-index l.to-items)
