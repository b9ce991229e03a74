-- What is ranked stays so, from one edge to the next.
use Rattle.std.proofs.Common.{◌≡◌, ◌==◌, ◌<◌, ◌+◌, ℕ, zero, suc, List, [], ◌∷◌, length, Bool, true, false, Option, Some, None, is_some, get_or, sym, ap, subst, arith, ◌∙◌, refl}
use Rattle.std.proofs.lemmas.Bool.{false≢true, eqb-true, eqb-false}
use Rattle.std.specs.FinMap as finite
use Rattle.ft_waits.specs.declared.edge.Edge.{Edge}
use Rattle.ft_waits.specs.Walk.{Ranks, KeepsRanks}

kept : (old new : Ranks) (txn : ℕ) → KeepsRanks old new → finite.contains_key old txn ≡ true → finite.contains_key new txn ≡ true
kept old new txn keeps there = by_rank (finite.get old txn) refl
  where
    by_rank : (o : Option ℕ) → finite.get old txn ≡ o → finite.contains_key new txn ≡ true
    by_rank (Some rank) is = ap (λ r. is_some r) (keeps txn rank is)
    by_rank None is = absurd (false≢true (sym (ap (λ r. is_some r) is) ∙ there))

-- what the edges so far go out of is ranked, and what one more does
pub ranked-on : (edges : List Edge) (old new : Ranks) (at : ℕ) → KeepsRanks old new
    → ((k : ℕ) (e : Edge) → k < at → finite.contains_key old (get_or edges k e).from ≡ true) → ((e : Edge) → finite.contains_key new (get_or edges at e).from ≡ true)
    → (k : ℕ) (e : Edge) → k < at + 1 → finite.contains_key new (get_or edges k e).from ≡ true
ranked-on edges old new at keeps before here k e within = by_place (k == at) refl
  where
    by_place : (b : Bool) → (k == at) ≡ b → finite.contains_key new (get_or edges k e).from ≡ true
    by_place true is = subst (λ n. finite.contains_key new (get_or edges n e).from ≡ true) (sym (eqb-true k at is)) (here e)
    by_place false is = kept old new (get_or edges k e).from keeps (before k e (let apart = eqb-false k at is in omega arith))

-- what stands at a place does not hang on what would be told beyond the end
pub same-there : (edges : List Edge) (at : ℕ) (d e : Edge) → at < length edges → get_or edges at d ≡ get_or edges at e
same-there [] at d e within = absurd (omega arith)
same-there (edge ∷ edges) zero d e within = refl
same-there (edge ∷ edges) (suc at) d e within = same-there edges at d e (omega arith)
