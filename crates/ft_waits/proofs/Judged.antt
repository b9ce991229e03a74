-- What is said of a verdict, clause by clause, as one.
use Rattle.std.proofs.Common.{List, nat_eq}
use Rattle.std.specs.List.{IsDistinct}
use Rattle.std.specs.List.Sorted.{IsStrictlyIncreasing}
use Rattle.ft_waits.specs.declared.edge.Edge.{Edge}
use Rattle.ft_waits.specs.declared.verdict.Verdict.{Verdict}
use Rattle.ft_waits.specs.declared.verdict.Verdict.TheVariants.{Cycle, Ranked}
use Rattle.ft_waits.specs.Waits.{IfCycle, IfRanked, IsCycle, BeginsWithLeast, RankAllNamed, AreRanks, FallAlong, HasNoCycle, IsVerdict, txns_of}

pub told : (edges : List Edge) (verdict : Verdict) → IfCycle (IsCycle edges) verdict → IfCycle (IsDistinct nat_eq) verdict → IfCycle BeginsWithLeast verdict
    → IfRanked (RankAllNamed edges) verdict → IfRanked (λ ranks. IsStrictlyIncreasing (txns_of ranks)) verdict → IfRanked (AreRanks edges) verdict → IfRanked (FallAlong edges) verdict → IfRanked (λ _. HasNoCycle edges) verdict → IsVerdict edges verdict
told edges (Cycle members) cycle distinct least named rising ranks falls no_cycle = record { cycle = cycle; distinct = distinct; least = least }
told edges (Ranked list) cycle distinct least named rising ranks falls no_cycle = record { named = named; rising = rising; ranks_are = ranks; falls = falls; no_cycle = no_cycle }
