-- A step of the walk: an edge that leads to a ranked transaction is passed.
use Rattle.std.proofs.Common.{◌≡◌, ◌+◌, ◌<◌, ◌≤◌, ◌-◌, ◌⊎◌, ℕ, suc, Some, List, ◌∷◌, length, take, drop, get_or, drop-cons, add-one, inl, inr, arith, refl, sym, ap, subst, ◌∙◌, max}
use Rattle.std.specs.FinMap as finite
use Rattle.std.proofs.lemmas.Bool.{cases_lt}
use Rattle.ft_waits.specs.declared.edge.Edge.{Edge}
use Rattle.ft_waits.specs.declared.walk.Step.{Step}
use Rattle.ft_waits.specs.Waits.{HasEdge}
use Rattle.ft_waits.specs.Walk.{Ranks, LeadTo, ahead_of, RanksBelow, IsReached, IsStep}

pub below-weaker : (ranks : Ranks) (txn low high : ℕ) → low ≤ high → RanksBelow ranks txn low → RanksBelow ranks txn high
below-weaker ranks txn low high h (rank, is, lt) = (rank, is, omega arith)

-- the first edge ahead, and the others
pub ahead-cons : (edges : List Edge) (next end : ℕ) (d : Edge) → next < end → end ≤ length edges → take (end - next) (drop next edges) ≡ get_or edges next d ∷ take (end - (next + 1)) (drop (next + 1) edges)
ahead-cons edges next end d before within =
    let some : end - next ≡ suc (end - (next + 1)) = omega arith in
    ap (λ n. take n (drop next edges)) some ∙ ap (λ (es : List Edge). take (suc (end - (next + 1))) es) (drop-cons edges next d (omega arith))
    ∙ ap (λ n. get_or edges next d ∷ take (end - (next + 1)) (drop n edges)) (sym (add-one next))

module _ (edges : List Edge) (ranks : Ranks) (step new : Step) (edge : Edge) (rank : ℕ) (same : new.txn ≡ step.txn) (further : new.next ≡ step.next + 1) (same_end : new.end ≡ step.end) (before : step.next < step.end)
    (edge_is : get_or edges step.next edge ≡ edge) (higher : new.rank ≡ max step.rank (rank + 1)) (ranked : finite.get ranks edge.to ≡ Some rank) (small : rank < finite.len ranks) (is : IsStep edges ranks step) where
  front : ahead_of edges step ≡ edge ∷ ahead_of edges new
  front = ahead-cons edges step.next step.end edge before is.within ∙ ap (λ (e : Edge). e ∷ take (step.end - (step.next + 1)) (drop (step.next + 1) edges)) edge_is
      ∙ ap (λ n. edge ∷ take (step.end - n) (drop n edges)) (sym further) ∙ ap (λ n. edge ∷ take (n - new.next) (drop new.next edges)) (sym same_end)

  edge-out : HasEdge edges step.txn edge.to
  edge-out = is.out edge.to (subst (λ (es : List Edge). LeadTo es edge.to) (sym front) (inl refl))

  passed-more : (to : ℕ) → LeadTo (edge ∷ ahead_of edges new) to ⊎ RanksBelow ranks to step.rank → LeadTo (ahead_of edges new) to ⊎ RanksBelow ranks to new.rank
  passed-more to (inl (inl leads)) = inr (rank, ap (λ n. finite.get ranks n) (sym leads) ∙ ranked, omega arith)
  passed-more to (inl (inr h)) = inl h
  passed-more to (inr h) = inr (below-weaker ranks to step.rank new.rank (omega arith) h)

  reached-more : IsReached edges ranks step.txn new.rank
  reached-more = elim (cases_lt step.rank (rank + 1)) [
    | inl lower ↦ inr (edge.to, rank, edge-out, ranked, omega arith)
    | inr not_lower ↦ subst (λ n. IsReached edges ranks step.txn n) (omega arith) is.reached
  ]

  pub step-pass : IsStep edges ranks new
  step-pass = record {
    within = let old = is.within in omega arith;
    out = λ to h. subst (λ txn. HasEdge edges txn to) (sym same) (is.out to (subst (λ (es : List Edge). LeadTo es to) (sym front) (inr h)));
    passed = λ to h. passed-more to (subst (λ (es : List Edge). LeadTo es to ⊎ RanksBelow ranks to step.rank) front (is.passed to (subst (λ txn. HasEdge edges txn to) same h)));
    reached = subst (λ txn. IsReached edges ranks txn new.rank) (sym same) reached-more;
    small = let old = is.small in omega arith;
  }
