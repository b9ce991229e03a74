-- The order of edges.
use Rattle.std.proofs.Common.{◌≡◌, ◌≢◌, ℕ, Bool, true, false, cond, eqb, List, [], ◌∷◌, Contains, length, ◌<◌, zero, suc, get_or, inl, inr, arith, refl, sym, ap, ◌∙◌, subst}
use Rattle.std.proofs.lemmas.Bool.{false≢true, eqb-true}
use Rattle.std.specs.declared.cmp.Ordering.TheVariants.{Less}
use Rattle.std.specs.Ordering.{nat_cmp, ordering_then}
use Rattle.std.specs.Prelude.{◌&&◌}
use Rattle.std.specs.List.{AllByRecursion, IsDistinct, dedup, dedup_from}
use Rattle.std.specs.List.Sorted.{IsSorted, IsStrictlySortedBy, IsPermutation}
use Rattle.std.proofs.lemmas.List.Kept.{IsStrictlySortedBy-dedup}
use Rattle.std.proofs.lemmas.Map.Keys.{IsDistinct-IsPermutation}
use Rattle.std.proofs.lemmas.List.Sorted.{Contains-permutation, IsPermutation-sym}
use Rattle.ft_waits.specs.contracts.edge.EdgeOrd.TheImpl as edge_ord
use Rattle.ft_waits.specs.contracts.edge.EdgeKindOrd.TheImpl as kind_ord
use Rattle.ft_waits.specs.contracts.edge.EdgeKindPartialEq.TheImpl as kind_same
use Rattle.ft_waits.specs.contracts.edge.EdgeEq.TheImpl.Laws.{laws-law}
use Rattle.ft_waits.specs.contracts.edge.EdgePartialEq.TheImpl as edge_same
use Rattle.ft_waits.specs.contracts.edge.EdgeOrd.TheImpl.Laws.{total-law, matches_eq-law}
use Rattle.ft_waits.specs.declared.edge.Edge.{Edge}
use Rattle.ft_waits.specs.declared.edge.EdgeKind.{EdgeKind}
use Rattle.ft_waits.specs.declared.edge.EdgeKind.TheVariants.{Lock, Child}
use Rattle.ft_laws.specs.Lists.{Each, Pairs, In}
use Rattle.ft_laws.proofs.Tests.{by_test}
use Rattle.ft_waits.specs.Edges.{edge_cmp, kind_rank, AreRising}

both_true : (a b : Bool) → a && b ≡ true → (a ≡ true) × (b ≡ true)
both_true true b h = (refl, h)
both_true false b h = absurd (false≢true h)

kinds : (k l : EdgeKind) → kind_ord.ghosts.cmp k l ≡ nat_cmp (kind_rank k) (kind_rank l)
kinds Lock Lock = refl
kinds Lock Child = refl
kinds Child Lock = refl
kinds Child Child = refl

compared : (x y : Edge) → edge_ord.ghosts.cmp x y ≡ edge_cmp x y
compared x y = ap (λ o. ordering_then (nat_cmp x.from y.from) (ordering_then (nat_cmp x.to y.to) o)) (kinds x.kind y.kind)

same_kind : (k l : EdgeKind) → kind_same.ghosts.eq k l ≡ true → k ≡ l
same_kind Lock Lock h = refl
same_kind Lock Child h = absurd (false≢true h)
same_kind Child Lock h = absurd (false≢true h)
same_kind Child Child h = refl

same_edge : (x y : Edge) → edge_same.ghosts.eq x y ≡ true → x ≡ y
same_edge x y h =
    let ends = both_true (eqb x.from y.from) (eqb x.to y.to && kind_same.ghosts.eq x.kind y.kind) h in
    let others = both_true (eqb x.to y.to) (kind_same.ghosts.eq x.kind y.kind) ends.1 in
    ap (λ n. record { from = n; to = x.to; kind = x.kind }) (eqb-true x.from y.from ends.0)
    ∙ (ap (λ n. record { from = y.from; to = n; kind = x.kind }) (eqb-true x.to y.to others.0) ∙ ap (λ k. record { from = y.from; to = y.to; kind = k }) (same_kind x.kind y.kind others.1))

each_below : (x : Edge) (ys : List Edge) → AllByRecursion (λ y. edge_ord.ghosts.cmp x y ≡ Less) ys → Each (λ y. edge_cmp x y ≡ Less) ys
each_below x [] h = tt
each_below x (y ∷ ys) h = (sym (compared x y) ∙ h.0, each_below x ys h.1)

strictly : (xs : List Edge) → IsStrictlySortedBy edge_ord.ghosts.cmp xs → AreRising xs
unfolding IsStrictlySortedBy
strictly [] h = tt
strictly (x ∷ xs) h = (each_below x xs h.0, strictly xs h.1)

-- ---- to stand in a list, by place or by recursion

at_place : {A : Type 0} (xs : List A) (k : ℕ) (x : A) → k < length xs → get_or xs k x ≡ x → In x xs
at_place [] k x low is = absurd (omega arith)
at_place (y ∷ ys) zero x low is = inl (sym is)
at_place (y ∷ ys) (suc k) x low is = inr (at_place ys k x (omega arith) is)

pub in_contained : {A : Type 0} (xs : List A) (x : A) → Contains xs x → In x xs
in_contained xs x h = at_place xs h.0 x h.1 h.2

pub contains_in : {A : Type 0} (xs : List A) (x : A) → In x xs → Contains xs x
contains_in [] x h = absurd h
contains_in (y ∷ ys) x (inl is) = (zero, omega arith, sym is)
contains_in (y ∷ ys) x (inr h) = let (k, low, is) = contains_in ys x h in (suc k, omega arith, is)

-- ---- what a sort leaves of edges that each stand there once

abbrev same : Edge → Edge → Bool
same = edge_same.ghosts.eq

differ : (x y : Edge) → x ≢ y → same x y ≡ false
differ x y apart = by_test (same x y) (λ tied. absurd (apart (same_edge x y tied))) (λ untied. untied)

differ_all : (x : Edge) (ys : List Edge) → Each (λ y. x ≢ y) ys → AllByRecursion (λ y. same x y ≡ false) ys
differ_all x [] h = tt
differ_all x (y ∷ ys) h = (differ x y h.0, differ_all x ys h.1)

distinct : (xs : List Edge) → Pairs (λ x y. x ≢ y) xs → IsDistinct same xs
unfolding IsDistinct
distinct [] h = tt
distinct (x ∷ xs) h = (differ_all x xs h.0, distinct xs h.1)

-- there is nothing for a dedup to take away
dedup_none : (x : Edge) (xs : List Edge) → IsDistinct same (x ∷ xs) → dedup same (x ∷ xs) ≡ x ∷ xs
unfolding IsDistinct
dedup_none x [] h = refl
dedup_none x (y ∷ ys) h =
    ap (λ b. cond b (dedup_from same x ys) (x ∷ dedup_from same y ys)) (laws-law.symm y x ∙ h.0.0) ∙ ap (λ es. x ∷ es) (dedup_none y ys h.1)

dedup_itself : (xs : List Edge) → IsDistinct same xs → dedup same xs ≡ xs
dedup_itself [] h = refl
dedup_itself (x ∷ xs) h = dedup_none x xs h

module _ (old sorted : List Edge) (moved : IsPermutation old sorted) where
  pub in_order : Pairs (λ x y. x ≢ y) old → IsSorted edge_ord.ghosts.cmp sorted → AreRising sorted
  in_order apart rises =
      let still = IsDistinct-IsPermutation same laws-law.symm old sorted moved (distinct old apart) in
      strictly sorted (subst (IsStrictlySortedBy edge_ord.ghosts.cmp) (dedup_itself sorted still) (IsStrictlySortedBy-dedup total-law matches_eq-law sorted rises))

  pub none_new : (e : Edge) → In e sorted → In e old
  none_new e there = in_contained old e (Contains-permutation sorted old e (IsPermutation-sym old sorted moved) (contains_in sorted e there))

  pub none_lost : (e : Edge) → In e old → In e sorted
  none_lost e there = in_contained sorted e (Contains-permutation old sorted e moved (contains_in old e there))
