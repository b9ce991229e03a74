-- What a walk has found.
use Rattle.std.proofs.Common.{◌≡◌, ◌+◌, ◌⊎◌, ℕ, zero, suc, true, false, cond, not, None, List, [], ◌∷◌, ◌++◌, Contains, is_some, nat_eq, drop, inl, inr, arith, sym, ap, subst, ◌∙◌, eqb}
use Rattle.std.specs.List.{IsDistinct, prefix_len}
use Rattle.std.specs.FinMap as finite
use Rattle.std.proofs.lemmas.Bool.{cases_eq}
use Rattle.std.proofs.lemmas.Bool.Decides.{nat_tests}
use Rattle.ft_waits.specs.declared.edge.Edge.{Edge}
use Rattle.ft_waits.specs.declared.walk.Step.{Step}
use Rattle.ft_waits.specs.Waits.{HasEdge, IsNamed, IsPath, IsCycle}
use Rattle.ft_waits.specs.Walk.{Ranks, Txns, IsWalk, path_txns, from_first}
use Rattle.ft_waits.proofs.Paths.{path-join, path-back, distinct-back}
use Rattle.ft_waits.proofs.Walks.{txns-push}

-- where no step is on the path, what is named and seen is ranked
pub root-ranked : (edges : List Edge) (unseen : Txns) (ranks : Ranks) (steps : List Step) (root : ℕ) → IsWalk edges unseen ranks steps → steps ≡ [] → IsNamed edges root → finite.get unseen root ≡ None → finite.contains_key ranks root ≡ true
root-ranked edges unseen ranks steps root walk none named seen = go (subst (λ (ss : List Step). (finite.contains_key unseen root ≡ true) ⊎ (finite.contains_key ranks root ≡ true) ⊎ Contains (path_txns ss) root) none (walk.all root named)) where
  go : (finite.contains_key unseen root ≡ true) ⊎ (finite.contains_key ranks root ≡ true) ⊎ Contains [] root → finite.contains_key ranks root ≡ true
  go (inl h) = let none = ap (λ o. is_some o) seen in cc
  go (inr (inl h)) = h
  go (inr (inr (k, lt, is))) = absurd (omega arith)

-- a list from the first place of a member on
splits : (xs : List ℕ) (x : ℕ) → Contains xs x → (before : List ℕ) × (others : List ℕ) × (xs ≡ before ++ x ∷ others) × (from_first x xs ≡ x ∷ others)
splits [] x (k, lt, is) = absurd (omega arith)
splits (y ∷ ys) x among = elim (cases_eq y x) [
  | inl same ↦ ([], ys, ap (λ z. z ∷ ys) same, ap (λ n. drop n (y ∷ ys)) (ap (λ b. cond (not b) (1 + prefix_len (λ o. not (eqb o x)) ys) 0) (is_same same)) ∙ ap (λ z. z ∷ ys) same)
  | inr other ↦
      let (before, others, is, from) = splits ys x (later other among) in
      (y ∷ before, others, ap (λ zs. y ∷ zs) is, ap (λ n. drop n (y ∷ ys)) (ap (λ b. cond (not b) (1 + prefix_len (λ o. not (eqb o x)) ys) 0) (is_other other) ∙ one_more (prefix_len (λ o. not (eqb o x)) ys)) ∙ from)
] where
  is_same : y ≡ x → eqb y x ≡ true
  is_same same = grind (arith, nat_tests)

  is_other : (y ≡ x → ⊥) → eqb y x ≡ false
  is_other other = grind (arith, nat_tests)

  one_more : (n : ℕ) → 1 + n ≡ suc n
  one_more n = omega arith

  later : (y ≡ x → ⊥) → Contains (y ∷ ys) x → Contains ys x
  later other (zero, lt, is) = absurd (other is)
  later other (suc k, lt, is) = (k, omega arith, is)

-- an edge leads from the last step on the path to a transaction
module _ (edges : List Edge) (steps : List Step) (top : Step) (txn next : ℕ) (same : top.txn ≡ txn) (path : IsPath edges (path_txns steps) txn) (edge : HasEdge edges txn next) where
  pub path-further : IsPath edges (path_txns (steps ++ top ∷ [])) next
  path-further =
      subst (λ txns. IsPath edges txns next) (sym (txns-push steps top))
      (path-join edges (path_txns steps) (top.txn ∷ []) next (subst (λ n. IsPath edges (path_txns steps) n) (sym same) path) (subst (λ n. HasEdge edges n next) (sym same) edge, tt))

  -- that is neither ranked nor unseen
  module _ (unseen : Txns) (ranks : Ranks) (walk : IsWalk edges unseen ranks (steps ++ top ∷ [])) (unranked : finite.get ranks next ≡ None) (seen : finite.get unseen next ≡ None) where
    next-named : IsNamed edges next
    next-named = let (k, e, lt, is, h) = edge in (k, e, lt, is, inr h.1)

    on_path : Contains (path_txns (steps ++ top ∷ [])) next
    on_path = go (walk.all next next-named) where
      go : (finite.contains_key unseen next ≡ true) ⊎ (finite.contains_key ranks next ≡ true) ⊎ Contains (path_txns (steps ++ top ∷ [])) next → Contains (path_txns (steps ++ top ∷ [])) next
      go (inl h) = let none = ap (λ o. is_some o) seen in cc
      go (inr (inl h)) = let none = ap (λ o. is_some o) unranked in cc
      go (inr (inr h)) = h

    pub found-cycle : IsCycle edges (from_first next (path_txns (steps ++ top ∷ [])))
    found-cycle =
        let (before, others, is, from) = splits (path_txns (steps ++ top ∷ [])) next on_path in
        subst (λ txns. IsCycle edges txns) (sym from) (path-back edges before (next ∷ others) next (subst (λ txns. IsPath edges txns next) is path-further))

    pub found-distinct : IsDistinct nat_eq (from_first next (path_txns (steps ++ top ∷ [])))
    found-distinct =
        let (before, others, is, from) = splits (path_txns (steps ++ top ∷ [])) next on_path in
        subst (λ txns. IsDistinct nat_eq txns) (sym from) (distinct-back before (next ∷ others) (subst (λ txns. IsDistinct nat_eq txns) is walk.distinct))
