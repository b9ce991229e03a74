-- The edges out of one transaction, where edges stand in order.
use Rattle.std.proofs.Common.{◌≡◌, ◌+◌, ◌-◌, ◌<◌, ◌≤◌, ℕ, zero, suc, true, false, List, [], ◌∷◌, length, get_or, take, drop, inl, inr, arith, refl, sym, ap, ◌∙◌, ltb, leb, length-drop}
use Rattle.std.specs.List.Sorted.{IsPartitionPoint}
use Rattle.std.proofs.lemmas.List.{get_or-take, get_or-drop, length-take-le}
use Rattle.std.proofs.lemmas.Bool.{cases_lt}
use Rattle.std.proofs.lemmas.Bool.Decides.{nat_tests}
use Rattle.ft_waits.specs.declared.edge.Edge.{Edge}
use Rattle.ft_waits.specs.Waits.{HasEdge}
use Rattle.ft_waits.specs.Walk.{LeadTo}

-- the edge at a place leads where it leads
pub lead-at : (edges : List Edge) (k : ℕ) (edge : Edge) (to : ℕ) → k < length edges → get_or edges k edge ≡ edge → edge.to ≡ to → LeadTo edges to
lead-at [] k edge to h is leads = absurd (omega arith)
lead-at (e ∷ edges) zero edge to h is leads = inl (ap (λ (x : Edge). x.to) is ∙ leads)
lead-at (e ∷ edges) (suc k) edge to h is leads = inr (lead-at edges k edge to (omega arith) is leads)

pub place-lead : (edges : List Edge) (to : ℕ) → LeadTo edges to → (k : ℕ) × (edge : Edge) × (k < length edges) × (get_or edges k edge ≡ edge) × (edge.to ≡ to)
place-lead [] to h = absurd h
place-lead (e ∷ edges) to (inl leads) = (zero, e, omega arith, refl, leads)
place-lead (e ∷ edges) to (inr h) =
    let (k, edge, lt, is, leads) = place-lead edges to h in
    (suc k, edge, omega arith, is, leads)

at_most_least : (n t : ℕ) → leb n t ≡ true → ltb n t ≡ false → n ≡ t
at_most_least n t upper lower = grind (arith, nat_tests)

-- the edges from the first that is not before a transaction up to the last that is not past it
module _ (edges : List Edge) (txn next end : ℕ) (within : end ≤ length edges) (from_next : IsPartitionPoint (λ (e : Edge). ltb e.from txn ≡ true) (λ (e : Edge). ltb e.from txn ≡ false) edges next)
    (to_end : IsPartitionPoint (λ (e : Edge). leb e.from txn ≡ true) (λ (e : Edge). leb e.from txn ≡ false) edges end) where
  ahead-at : (k : ℕ) (e : Edge) → k < end - next → get_or (take (end - next) (drop next edges)) k e ≡ get_or edges (next + k) e
  ahead-at k e low = get_or-take (end - next) (drop next edges) k e low ∙ get_or-drop next edges k e

  length-ahead : length (take (end - next) (drop next edges)) ≡ end - next
  length-ahead = let all = length-drop next edges in length-take-le (end - next) (drop next edges) (omega arith)

  pub out-lead : (to : ℕ) → LeadTo (take (end - next) (drop next edges)) to → HasEdge edges txn to
  out-lead to leads =
      let (k, edge, lt, is, goes) = place-lead (take (end - next) (drop next edges)) to leads in
      let size = length-ahead in
      let low : k < end - next = omega arith in
      let here : get_or edges (next + k) edge ≡ edge = sym (ahead-at k edge low) ∙ is in
      let not_past : leb edge.from txn ≡ true = ap (λ (e : Edge). leb e.from txn) (sym here) ∙ to_end.0 (next + k) edge (omega arith) (omega arith) in
      let not_before : ltb edge.from txn ≡ false = ap (λ (e : Edge). ltb e.from txn) (sym here) ∙ from_next.1 (next + k) edge (omega arith) (omega arith) in
      (next + k, edge, omega arith, here, (at_most_least edge.from txn not_past not_before, goes))

  pub lead-out : (to : ℕ) → HasEdge edges txn to → LeadTo (take (end - next) (drop next edges)) to
  lead-out to h =
      let (k, edge, lt, is, (comes, goes)) = h in
      let not_before : (ltb edge.from txn ≡ true) → ⊥ = λ b. grind (arith, nat_tests, b, comes) in
      let not_past : (leb edge.from txn ≡ false) → ⊥ = λ b. grind (arith, nat_tests, b, comes) in
      let low : next ≤ k = elim (cases_lt k next) [
        | inl early ↦ absurd (not_before (ap (λ (e : Edge). ltb e.from txn) (sym is) ∙ from_next.0 k edge (omega arith) early))
        | inr late ↦ late
      ] in
      let high : k < end = elim (cases_lt k end) [
        | inl early ↦ early
        | inr late ↦ absurd (not_past (ap (λ (e : Edge). leb e.from txn) (sym is) ∙ to_end.1 k edge late lt))
      ] in
      let size = length-ahead in
      let there : next + (k - next) ≡ k = omega arith in
      lead-at (take (end - next) (drop next edges)) (k - next) edge to (omega arith) (ahead-at (k - next) edge (omega arith) ∙ ap (λ n. get_or edges n edge) there ∙ is) goes
