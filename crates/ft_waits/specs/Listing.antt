-- The list of the waits-for edges of a core, before it is put in order. No public clause cites it.
use Rattle.std.specs.Prelude.{ℕ, List, map}
use Rattle.ft_core.specs.declared.reports.LiveChild.{LiveChild}
use Rattle.ft_waits.specs.declared.edge.Edge.{Edge}
use Rattle.ft_waits.specs.declared.edge.EdgeKind.TheVariants.{Lock, Child}

-- an edge to each of those that a transaction waits for
abbrev pub lock_edges : (ℕ × List ℕ) → List Edge
lock_edges wait = map (λ to. record { from = wait.0; to = to; kind = Lock }) wait.1

-- an edge from a parent to its live child
abbrev pub child_edge : LiveChild → Edge
child_edge pair = record { from = pair.parent; to = pair.child; kind = Child }
