use Rattle.std.proofs.Common.{◌≡◌, ◌<◌, ℕ, [], true, get_or}
use Rattle.std.specs.FinMap as finite
use Rattle.ft_waits.specs.declared.edge.Edge.{Edge}
use Rattle.ft_waits.specs.Stands.{Stands}
use Rattle.ft_waits.proofs.verdict.judge_sorted.Given as goal

-- no step is on the path, and what the edges so far go out of is ranked
abbrev pub invariant-loop-edge : goal.invariant-loop-edge
invariant-loop-edge l = record {
  edges : l.walk.edges.now ≡ l.edges;
  stands : Stands l.walk [];
  at_rest : l.walk.path.items ≡ [];
  ranked : (k : ℕ) (e : Edge) → k < l.edge-index → finite.contains_key l.walk.ranks (get_or l.edges k e).from ≡ true;
}
