use Rattle.std.specs.FinMap as finite
use Rattle.std.specs.Vec.Iter.{into_iter_items}
use Rattle.ft_waits.proofs.Passing.{IsSoFar}
use Rattle.ft_waits.proofs.behind.pass.Given as goal

-- what the pass has come to so far, with the edges that it has not come to
abbrev pub invariant-loop-edge : goal.invariant-loop-edge
invariant-loop-edge l = IsSoFar l.fn.rest.items (into_iter_items l.edge-iterator) l.left.items (λ u. finite.contains_key l.initial.found u) (λ u. finite.contains_key l.found u)
