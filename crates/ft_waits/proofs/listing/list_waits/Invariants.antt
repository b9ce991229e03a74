use Rattle.std.proofs.Common.{◌≡◌, ◌++◌, take}
use Rattle.std.specs.List.{flat_map}
use Rattle.ft_core.specs.Reports.{as_wait}
use Rattle.ft_waits.specs.Listing.{lock_edges}
use Rattle.ft_waits.proofs.listing.list_waits.Given as goal

-- the edges of the waits so far are listed
abbrev pub invariant-loop-wait : goal.invariant-loop-wait
invariant-loop-wait l = l.edges.items ≡ l.initial.edges.items ++ flat_map (λ wait. lock_edges (as_wait wait)) (take l.wait-index l.waits)
