-- The youngest on a cycle of the edges of a core.
use Rattle.std.proofs.Common.{◌≡◌, ℕ, List, [], Option, None, Some, MatchOption, subst}
use Rattle.ft_core.specs.States.{State}
use Rattle.ft_waits.specs.declared.edge.Edge.{Edge}
use Rattle.ft_waits.specs.Edges.{AreEdgesOf}
use Rattle.ft_waits.specs.Waits.{IsCycle}
use Rattle.ft_waits.specs.Cycles.{HasNoDeadlock, IsYoungest, IsYoungestOnCycle}

pub youngest-found : (s : State) (edges : List Edge) (members : List ℕ) (found : Option ℕ) → AreEdgesOf s edges → IsCycle edges members → MatchOption found (members ≡ []) (IsYoungest members)
    → MatchOption found (HasNoDeadlock s) (IsYoungestOnCycle s)
youngest-found s edges members None are cycle none = absurd (subst (IsCycle edges) none cycle)
youngest-found s edges members (Some t) are cycle young = record { edges = edges; members = members; edges_are = are; cycle = cycle; youngest = young }
