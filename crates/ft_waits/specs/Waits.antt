-- Waits-for edges between transactions: cycles of them, and the ranks if there is none. (Moss: a
-- deadlock is a cycle of waits-for edges. Ranks are a rule of this project.)
use Rattle.std.specs.Prelude.{◌≡◌, ◌<◌, ◌≤◌, ◌↔◌, ◌⊎◌, ℕ, zero, suc, List, [], ◌∷◌, map, All, Any, Contains, nat_eq}
use Rattle.std.specs.List.{IsDistinct}
use Rattle.std.specs.List.Sorted.{IsStrictlyIncreasing}
use Rattle.ft_waits.specs.declared.edge.Edge.{Edge}
use Rattle.ft_waits.specs.declared.verdict.Verdict.{Verdict}
use Rattle.ft_waits.specs.declared.verdict.Verdict.TheVariants.{Cycle, Ranked}

-- some edge goes from one transaction to another
abbrev pub HasEdge : List Edge → ℕ → ℕ → Type 0
HasEdge edges from to = Any (λ edge. (edge.from ≡ from) × (edge.to ≡ to)) edges

-- some edge goes out of a transaction, or leads to it
abbrev pub IsNamed : List Edge → ℕ → Type 0
IsNamed edges txn = Any (λ edge. (edge.from ≡ txn) ⊎ (edge.to ≡ txn)) edges

-- the first of some transactions; if there is none, `to`
abbrev pub first_or : List ℕ → ℕ → ℕ
first_or [] to = to
first_or (txn ∷ others) to = txn

-- each of the transactions has an edge to the next one, and the last of them to `to` (in the
-- theory of graphs, a walk)
abbrev pub IsPath : List Edge → List ℕ → ℕ → Type 0
IsPath edges [] to = Unit {0}
IsPath edges (txn ∷ others) to = HasEdge edges txn (first_or others to) × IsPath edges others to

-- there is a transaction, each has an edge to the next one, and the last of them to the first.
-- That they differ is a clause of its own.
abbrev pub IsCycle : List Edge → List ℕ → Type 0
IsCycle edges [] = ⊥
IsCycle edges (first ∷ others) = IsPath edges (first ∷ others) first

-- none is less than the first
abbrev pub BeginsWithLeast : List ℕ → Type 0
BeginsWithLeast [] = Unit {0}
BeginsWithLeast (first ∷ others) = All (λ txn. first ≤ txn) others

-- no transactions are a cycle
abbrev pub HasNoCycle : List Edge → Type 0
HasNoCycle edges = (members : List ℕ) → ¬ IsCycle edges members

-- the transactions of a list of transactions with their ranks
abbrev pub txns_of : List (ℕ × ℕ) → List ℕ
txns_of ranks = map (λ entry. entry.0) ranks

-- the transactions that have a rank are exactly those that the edges name
abbrev pub RankAllNamed : List Edge → List (ℕ × ℕ) → Type 0
RankAllNamed edges ranks = (txn : ℕ) → Contains (txns_of ranks) txn ↔ IsNamed edges txn

-- the greatest rank that an edge out of a transaction leads to
abbrev pub IsGreatestAhead : List Edge → List (ℕ × ℕ) → ℕ → ℕ → Type 0
IsGreatestAhead edges ranks txn rank =
    ((to : ℕ) × HasEdge edges txn to × Contains ranks (to, rank)) × ((to other : ℕ) → HasEdge edges txn to → Contains ranks (to, other) → other ≤ rank)

-- 0 if no edge goes out of the transaction, else one more than the greatest rank that an edge out
-- of it leads to (in the theory of graphs, the length of a longest walk)
abbrev pub IsRank : List Edge → List (ℕ × ℕ) → ℕ → ℕ → Type 0
IsRank edges ranks txn zero = (to : ℕ) → ¬ HasEdge edges txn to
IsRank edges ranks txn (suc rank) = IsGreatestAhead edges ranks txn rank

-- each transaction has its rank
abbrev pub AreRanks : List Edge → List (ℕ × ℕ) → Type 0
AreRanks edges ranks = (txn rank : ℕ) → Contains ranks (txn, rank) → IsRank edges ranks txn rank

-- each edge leads to a lower rank (in the theory of graphs, a topological order)
abbrev pub FallAlong : List Edge → List (ℕ × ℕ) → Type 0
FallAlong edges ranks = (from to high low : ℕ) → HasEdge edges from to → Contains ranks (from, high) → Contains ranks (to, low) → low < high

-- a fact of the members, if the verdict is a cycle
abbrev pub IfCycle : (List ℕ → Type 0) → Verdict → Type 0
IfCycle P (Cycle members) = P members
IfCycle P (Ranked ranks) = Unit {0}

-- a fact of the ranks, if the verdict is ranks
abbrev pub IfRanked : (List (ℕ × ℕ) → Type 0) → Verdict → Type 0
IfRanked P (Cycle members) = Unit {0}
IfRanked P (Ranked ranks) = P ranks

-- a cycle as it is told
pub record IsToldCycle (edges : List Edge) (members : List ℕ) : Type 0 where
  pub cycle : IsCycle edges members
  pub distinct : IsDistinct nat_eq members
  pub least : BeginsWithLeast members

-- ranks as they are told
pub record AreToldRanks (edges : List Edge) (ranks : List (ℕ × ℕ)) : Type 0 where
  pub named : RankAllNamed edges ranks
  pub rising : IsStrictlyIncreasing (txns_of ranks)
  pub ranks_are : AreRanks edges ranks
  pub falls : FallAlong edges ranks
  pub no_cycle : HasNoCycle edges

-- all that the clauses of `judge` say of a verdict, as one
abbrev pub IsVerdict : List Edge → Verdict → Type 0
IsVerdict edges (Cycle members) = IsToldCycle edges members
IsVerdict edges (Ranked ranks) = AreToldRanks edges ranks
