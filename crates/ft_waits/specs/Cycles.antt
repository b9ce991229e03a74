-- Cycles of waits in a state. (Moss, Nested Transactions, MIT 1981: a deadlock is a cycle of
-- waits-for edges, and is broken by an abort of one transaction on it. That it is the youngest is a
-- rule of this project.)
use Rattle.std.specs.Prelude.{◌≤◌, ℕ, List, All, Contains}
use Rattle.ft_core.specs.States.{State}
use Rattle.ft_waits.specs.declared.edge.Edge.{Edge}
use Rattle.ft_waits.specs.Edges.{AreEdgesOf}
use Rattle.ft_waits.specs.Waits.{HasNoCycle, IsCycle}

-- t is one of these transactions, and none of them was begun after it
abbrev pub IsYoungest : List ℕ → ℕ → Type 0
IsYoungest members t = Contains members t × All (λ u. u ≤ t) members

-- There is a cycle of the waits-for edges of the state, and t is the youngest on it.
pub record IsYoungestOnCycle (s : State) (t : ℕ) : Type 0 where
  pub edges : List Edge
  pub members : List ℕ
  pub edges_are : AreEdgesOf s edges
  pub cycle : IsCycle edges members
  pub youngest : IsYoungest members t

-- There is no cycle of the waits-for edges of the state.
abbrev pub HasNoDeadlock : State → Type 0
HasNoDeadlock s = (edges : List Edge) × AreEdgesOf s edges × HasNoCycle edges
