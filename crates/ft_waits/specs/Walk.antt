-- The invariant of a walk along waits-for edges. No public clause cites it.
use Rattle.std.specs.Prelude.{◌≡◌, ◌+◌, ◌-◌, ◌^◌, ◌<◌, ◌≤◌, ◌⊎◌, ℕ, true, List, [], ◌∷◌, Some, None, map, length, take, drop, All, Contains, nat_eq, ◌==◌, not}
use Rattle.std.specs.List.{IsDistinct, prefix_len}
use Rattle.std.specs.List.Sorted.{IsNonDecreasingBy}
use Rattle.std.specs.Ordering.{nat_cmp}
use Rattle.std.specs.FinMap as finite
use Rattle.ft_waits.specs.declared.edge.Edge.{Edge}
use Rattle.ft_waits.specs.declared.walk.Step.{Step}
use Rattle.ft_waits.specs.Waits.{HasEdge, IsNamed}

-- the edges are in the order of the transactions that they go out of
abbrev pub AreInOrder : List Edge → Type 0
AreInOrder edges = IsNonDecreasingBy (λ edge. edge.from) edges

-- transactions with their ranks
abbrev pub Ranks : Type 0
Ranks = finite.FinMap nat_cmp ℕ

-- a set of transactions
abbrev pub Txns : Type 0
Txns = finite.FinMap nat_cmp (Unit {0})

-- one of the edges leads to a transaction
abbrev pub LeadTo : List Edge → ℕ → Type 0
LeadTo [] to = ⊥
LeadTo (edge ∷ others) to = (edge.to ≡ to) ⊎ LeadTo others to

-- the edges out of the transaction of a step that were not followed to their end
abbrev pub ahead_of : List Edge → Step → List Edge
ahead_of edges step = take (step.end - step.next) (drop step.next edges)

-- a transaction is ranked, below a bound
abbrev pub RanksBelow : Ranks → ℕ → ℕ → Type 0
RanksBelow ranks txn bound = (rank : ℕ) × (finite.get ranks txn ≡ Some rank) × (rank < bound)

-- a rank is 0, or one more than that of a transaction that an edge out leads to
abbrev pub IsReached : List Edge → Ranks → ℕ → ℕ → Type 0
IsReached edges ranks txn rank =
    (rank ≡ 0) ⊎ ((to : ℕ) × (low : ℕ) × HasEdge edges txn to × (finite.get ranks to ≡ Some low) × (rank ≡ low + 1))

-- a step on the path: what is known of the edges out of its transaction
pub record IsStep (edges : List Edge) (ranks : Ranks) (step : Step) : Type 0 where
  pub within : step.end ≤ length edges
  -- those ahead are edges out of it
  pub out : (to : ℕ) → LeadTo (ahead_of edges step) to → HasEdge edges step.txn to
  -- all others lead to lower ranks
  pub passed : (to : ℕ) → HasEdge edges step.txn to → LeadTo (ahead_of edges step) to ⊎ RanksBelow ranks to step.rank
  pub reached : IsReached edges ranks step.txn step.rank
  pub small : step.rank ≤ finite.len ranks

-- a transaction on the path is named, and is neither ranked nor unseen
pub record IsOnPath (edges : List Edge) (unseen : Txns) (ranks : Ranks) (txn : ℕ) : Type 0 where
  pub named : IsNamed edges txn
  pub unranked : finite.get ranks txn ≡ None
  pub seen : finite.get unseen txn ≡ None

-- each edge out of a ranked transaction leads to a lower rank, each rank is reached and below the
-- count of those that are ranked, and nothing is both ranked and unseen
pub record AreRanked (edges : List Edge) (unseen : Txns) (ranks : Ranks) : Type 0 where
  pub falls : (from to high : ℕ) → finite.get ranks from ≡ Some high → HasEdge edges from to → RanksBelow ranks to high
  pub reached : (txn rank : ℕ) → finite.get ranks txn ≡ Some rank → IsReached edges ranks txn rank
  pub small : (txn rank : ℕ) → finite.get ranks txn ≡ Some rank → rank < finite.len ranks
  pub named : (txn rank : ℕ) → finite.get ranks txn ≡ Some rank → IsNamed edges txn
  pub apart : (txn : ℕ) → finite.contains_key unseen txn ≡ true → (finite.get ranks txn ≡ None) × IsNamed edges txn

-- the transactions of steps
abbrev pub path_txns : List Step → List ℕ
path_txns steps = map (λ step. step.txn) steps

-- the whole walk, if these steps are on the path: they differ, and each transaction that is named
-- is unseen, ranked or on the path
pub record IsWalk (edges : List Edge) (unseen : Txns) (ranks : Ranks) (steps : List Step) : Type 0 where
  pub ranked : AreRanked edges unseen ranks
  pub steps_are : All (IsStep edges ranks) steps
  pub on_path : All (IsOnPath edges unseen ranks) (path_txns steps)
  pub distinct : IsDistinct nat_eq (path_txns steps)
  pub all : (txn : ℕ) → IsNamed edges txn → (finite.contains_key unseen txn ≡ true) ⊎ (finite.contains_key ranks txn ≡ true) ⊎ Contains (path_txns steps) txn
  pub room : finite.len ranks + finite.len unseen + length steps < 2 ^ 64

-- what was ranked stays so
abbrev pub KeepsRanks : Ranks → Ranks → Type 0
KeepsRanks old new = (txn rank : ℕ) → finite.get old txn ≡ Some rank → finite.get new txn ≡ Some rank

-- transactions from the first place of one on
abbrev pub from_first : ℕ → List ℕ → List ℕ
from_first txn txns = drop (prefix_len (λ other. not (other == txn)) txns) txns
