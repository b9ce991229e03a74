use Rattle.std.proofs.Common.{vec_len}
use Rattle.std.specs.FinMap as finite
use Rattle.ft_waits.proofs.Passing.{AreSoFar}
use Rattle.ft_waits.proofs.behind.who_wait.Given as goal

-- what the passes so far have come to
abbrev pub invariant-loop-found : goal.invariant-loop-found
invariant-loop-found l = AreSoFar l.fn.edges.items l.rest.items l.fn.txn (λ u. finite.contains_key l.found u)

abbrev pub decreases-loop-found : goal.decreases-loop-found
decreases-loop-found l = vec_len l.rest
