use Rattle.std.proofs.Common.{◌≡◌, ◌<◌, ℕ, true, get_or}
use Rattle.std.specs.FinMap as finite
use Rattle.ft_waits.specs.declared.edge.Edge.{Edge}
use Rattle.ft_waits.specs.Waits.{IsNamed}
use Rattle.ft_waits.proofs.walk.txns_named.Given as goal

-- only those that are named, and all that the edges so far name
abbrev pub invariant-loop-edge : goal.invariant-loop-edge
invariant-loop-edge l = record {
  named : (txn : ℕ) → finite.contains_key l.txns txn ≡ true → IsNamed l.edges txn;
  all : (k : ℕ) (e : Edge) → k < l.edge-index → (finite.contains_key l.txns (get_or l.edges k e).from ≡ true) × (finite.contains_key l.txns (get_or l.edges k e).to ≡ true);
}
