-- The waits-for edges of a core (Moss, Nested Transactions, MIT 1981, deadlock). A transaction is
-- its number.
use Rattle.std.specs.Prelude.{◌≡◌, ◌↔◌, ℕ, List, Some}
use Rattle.std.specs.FinMap as finite
use Rattle.std.specs.Ordering.{nat_cmp, ordering_then}
use Rattle.std.specs.declared.cmp.Ordering.{Ordering}
use Rattle.std.specs.declared.cmp.Ordering.TheVariants.{Less}
use Rattle.ft_laws.specs.Lists.{Pairs, In}
use Rattle.ft_history.specs.History.Fate.{Live}
use Rattle.ft_posix.specs.declared.call.Call.{Call}
use Rattle.ft_core.specs.States.{State, fate_of, live_children}
use Rattle.ft_core.specs.Reports.{blockers_now}
use Rattle.ft_waits.specs.declared.edge.Edge.{Edge}
use Rattle.ft_waits.specs.declared.edge.EdgeKind.{EdgeKind}
use Rattle.ft_waits.specs.declared.edge.EdgeKind.TheVariants.{Lock, Child}

-- A transaction waits for another's lock: it has a pending ask, and the other blocks it now, on the
-- tree of the state and with the next stamp (Moss, to wait for a lock).
pub record WaitsForLock (s : State) (from to : ℕ) : Type 0 where
  pub call : Call
  pub pending : finite.get s.asks from ≡ Some call
  pub blocked : In to (blockers_now s from call)

-- A transaction waits for a live child: both are live (Moss: a parent ends after its children).
pub record WaitsForChild (s : State) (from to : ℕ) : Type 0 where
  pub live : fate_of s from ≡ Some Live
  pub child : In to (live_children s from)

-- one transaction waits for another, for this reason
abbrev pub WaitsFor : State → EdgeKind → ℕ → ℕ → Type 0
WaitsFor s Lock from to = WaitsForLock s from to
WaitsFor s Child from to = WaitsForChild s from to

-- a lock comes before a child (the order of edges is a rule of this project)
abbrev pub kind_rank : EdgeKind → ℕ
kind_rank Lock = 0
kind_rank Child = 1

-- by the waiting transaction, then by its blocker, then by the reason, a lock before a child
abbrev pub edge_cmp : Edge → Edge → Ordering
edge_cmp x y = ordering_then (nat_cmp x.from y.from) (ordering_then (nat_cmp x.to y.to) (nat_cmp (kind_rank x.kind) (kind_rank y.kind)))

-- each edge comes before all those after it
abbrev pub AreRising : List Edge → Type 0
AreRising edges = Pairs (λ x y. edge_cmp x y ≡ Less) edges

-- The list has each waits-for edge of the state once, in their order, and no other.
pub record AreEdgesOf (s : State) (edges : List Edge) : Type 0 where
  pub order : AreRising edges
  pub exact : (e : Edge) → In e edges ↔ WaitsFor s e.kind e.from e.to
