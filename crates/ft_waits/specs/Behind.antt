-- The waits-for edges if calls wait behind older asks, and which transactions are ahead of one that
-- asks. (Rules of this project.)
use Rattle.std.specs.Prelude.{◌≡◌, ◌↔◌, ◌⊎◌, ◌==◌, ◌≤◌, ℕ, Bool, true, false, List, Some, length}
use Rattle.std.specs.FinMap as finite
use Rattle.std.specs.List.{list_any}
use Rattle.ft_laws.specs.Lists.{In}
use Rattle.ft_posix.specs.declared.call.Call.{Call}
use Rattle.ft_core.specs.States.{State, accesses_now}
use Rattle.ft_core.specs.Fairness.{fair_rule, in_front}
use Rattle.ft_waits.specs.declared.edge.Edge.{Edge}
use Rattle.ft_waits.specs.Edges.{WaitsForChild}

-- A transaction waits for a call, and the other blocks it, if it waits behind those in front of it
-- in a queue.
pub record WaitsBehind (s : State) (queue : List ℕ) (from to : ℕ) : Type 0 where
  pub call : Call
  pub pending : finite.get s.asks from ≡ Some call
  pub blocked : In to (fair_rule (in_front queue from) s from (accesses_now s call))

-- one may wait for another: for its lock, behind its ask, or for its end as a live child
abbrev pub MayWaitFor : State → List ℕ → ℕ → ℕ → Type 0
MayWaitFor s queue from to = WaitsBehind s queue from to ⊎ WaitsForChild s from to

-- the list has an edge for each that may wait for another, and no other edges
abbrev pub AreEdgesBehind : State → List ℕ → List Edge → Type 0
AreEdgesBehind s queue edges = ((e : Edge) → In e edges → MayWaitFor s queue e.from e.to) × ((from to : ℕ) → MayWaitFor s queue from to → (e : Edge) × In e edges × (e.from ≡ from) × (e.to ≡ to))

-- with each transaction that passes the test, all that may wait for it pass it
abbrev pub HasAllWhoWait : State → List ℕ → (ℕ → Bool) → Type 0
HasAllWhoWait s queue among = (from to : ℕ) → MayWaitFor s queue from to → among to ≡ true → among from ≡ true

-- One is the other, or waits for it, through others or not: it is in each set that has the other
-- and, with each, all that may wait for that.
abbrev pub WaitsThrough : State → List ℕ → ℕ → ℕ → Type 0
WaitsThrough s queue from to = (among : ℕ → Bool) → HasAllWhoWait s queue among → among to ≡ true → among from ≡ true

-- Those ahead of t: they are in front of it in the queue, and do not wait for it, through others or
-- not. So no wait behind them closes a cycle.
abbrev pub AreAhead : State → List ℕ → ℕ → List ℕ → Type 0
AreAhead s queue t ahead = (u : ℕ) → (list_any (λ x. x == u) ahead ≡ true) ↔ ((list_any (λ x. x == u) (in_front queue t) ≡ true) × ¬ WaitsThrough s queue u t)

-- ---- the same along edges

-- with each transaction that passes the test, all from which an edge leads to it pass it
abbrev pub IsClosedAlong : List Edge → (ℕ → Bool) → Type 0
IsClosedAlong edges among = (e : Edge) → In e edges → among e.to ≡ true → among e.from ≡ true

-- these are all from which edges lead to t, through others or not, and t itself
pub record AreWhoWait (edges : List Edge) (t : ℕ) (found : ℕ → Bool) : Type 0 where
  pub own : found t ≡ true
  pub all : IsClosedAlong edges found
  pub least : (among : ℕ → Bool) → IsClosedAlong edges among → among t ≡ true → (u : ℕ) → found u ≡ true → among u ≡ true

-- One pass over the edges that are left: those that lead to one that was found are left out, and
-- those from which they lead are found.
pub record IsPass (rest left : List Edge) (old new : ℕ → Bool) : Type 0 where
  pub kept : (e : Edge) → In e rest → In e left ⊎ (new e.from ≡ true)
  pub part : (e : Edge) → In e left → In e rest
  pub grows : (u : ℕ) → old u ≡ true → new u ≡ true
  pub least : (among : ℕ → Bool) → IsClosedAlong rest among → ((u : ℕ) → old u ≡ true → among u ≡ true) → (u : ℕ) → new u ≡ true → among u ≡ true
  pub fewer : length left ≤ length rest
  -- if all are left, none of them leads to one that was found
  pub done : length left ≡ length rest → (e : Edge) → In e left → new e.to ≡ false
