-- The list of live children.
use Rattle.std.proofs.Common.{◌≡◌, ◌==◌, ◌&&◌, ◌⊎◌, ◌↔◌, ℕ, zero, suc, Bool, true, false, cond, List, [], ◌∷◌, Option, Some, None, inl, inr, arith, refl, sym, ap, subst, ◌∙◌}
use Rattle.std.specs.Prelude.{Contains}
use Rattle.std.specs.List.{dedup, dedup_from, AllByRecursion, IsDistinct}
use Rattle.std.specs.List.Sorted.{IsSorted, IsPermutation, IsStrictlySortedBy, IsStrictlyIncreasing}
use Rattle.std.proofs.lemmas.List.Sorted.{Contains-permutation, IsPermutation-sym}
use Rattle.std.proofs.lemmas.List.Kept.{IsStrictlySortedBy-dedup}
use Rattle.std.proofs.lemmas.Map.Keys.{IsDistinct-cons, IsDistinct-head, IsDistinct-tail, IsDistinct-IsPermutation, IsDistinct-from_sorted, sorted_from_strictly_increasing}
use Rattle.std.specs.Ordering.{nat_cmp, is_eq, eq_by_cmp, ordering_then}
use Rattle.std.specs.declared.cmp.Ordering.{Ordering}
use Rattle.std.specs.declared.cmp.Ordering.TheVariants.{Less, Equal, Greater}
use Rattle.std.specs.Cmp.{IsTotalOrder, IsEquivalence, nat_cmp_total, on_total, then_total, eq_by_cmp_equiv, unsigned_tied}
use Rattle.ft_laws.specs.Lists.{Each, Pairs, In}
use Rattle.ft_posix.specs.Posix.{posix_calls}
use Rattle.ft_forest.specs.declared.state.State.TheVariants.{Live as LiveState}
use Rattle.ft_forest.specs.Transactions.{Transactions, state_in, parent_in}
use Rattle.ft_history.specs.History.{parent}
use Rattle.ft_history.specs.History.Fate.{Live}
use Rattle.ft_history.proofs.Fates.{children}
use Rattle.ft_core.specs.declared.reports.LiveChild.{LiveChild}
use Rattle.ft_core.specs.Journals.{Journaled}
use Rattle.ft_core.specs.declared.parts.Parts.{Parts}
use Rattle.ft_core.specs.Kept.{IsCoreOf}
use Rattle.ft_core.specs.Laws.{CallLaws}
use Rattle.ft_core.specs.Reports.{child_cmp, AreLiveChildren, below, with_parents}
use Rattle.ft_core.specs.States.{State, history, fate_of, live_children, fate_in}
use Rattle.ft_core.proofs.Ends.{fate-live}
use Rattle.ft_core.proofs.Joining.{start, values, past}

-- Two words for what stands in a list.

standing-in : {A : Type 0} (xs : List A) (x : A) → Contains xs x → In x xs
standing-in [] x i = let lt = i.1 in absurd (omega arith)
standing-in (y ∷ ys) x (zero, lt, e) = inl (sym e)
standing-in (y ∷ ys) x (suc k, lt, e) = inr (standing-in ys x (k, omega arith, e))

contained : {A : Type 0} (xs : List A) (x : A) → In x xs → Contains xs x
contained [] x i = absurd i
contained (y ∷ ys) x (inl e) = (zero, omega arith, sym e)
contained (y ∷ ys) x (inr i) = let h = contained ys x i in let lt = h.1 in (suc h.0, omega arith, h.2)

-- Those that have a parent.

in-below : (o : Option ℕ) (c : ℕ) (rest : List LiveChild) (x : LiveChild) → In x (below o c rest) → ((x.child ≡ c) × (o ≡ Some x.parent)) ⊎ In x rest
in-below None c rest x i = inr i
in-below (Some p) c rest x (inl e) = inl (ap (λ (y : LiveChild). y.child) e, ap (λ (y : LiveChild). Some y.parent) (sym e))
in-below (Some p) c rest x (inr i) = inr i

with-parent : (m : Transactions) (xs : List ℕ) (x : LiveChild) → In x (with_parents m xs) → In x.child xs × (parent_in m x.child ≡ Some x.parent)
with-parent m [] x i = absurd i
with-parent m (y ∷ ys) x i = elim (in-below (parent_in m y) y (with_parents m ys) x i) [
  | inl is ↦ (inl is.0, ap (parent_in m) is.0 ∙ is.1)
  | inr j ↦ let later = with-parent m ys x j in (inr later.0, later.1)
]

below-keeps : (o : Option ℕ) (c : ℕ) (rest : List LiveChild) (x : LiveChild) → In x rest → In x (below o c rest)
below-keeps None c rest x i = i
below-keeps (Some p) c rest x i = inr i

parented : (m : Transactions) (xs : List ℕ) (x : LiveChild) → In x.child xs → parent_in m x.child ≡ Some x.parent → In x (with_parents m xs)
parented m [] x i up = absurd i
parented m (y ∷ ys) x (inl e) up =
    subst (λ o. In x (below o y (with_parents m ys))) (sym up ∙ ap (parent_in m) e)
    (inl (ap (λ c. record { parent = x.parent; child = c }) e))
parented m (y ∷ ys) x (inr i) up = below-keeps (parent_in m y) y (with_parents m ys) x (parented m ys x i up)

-- The order.

children_total : IsTotalOrder child_cmp
children_total = then_total (on_total (λ (x : LiveChild). x.parent) nat_cmp_total) (on_total (λ (x : LiveChild). x.child) nat_cmp_total)

both-equal : (a b : Ordering) → is_eq (ordering_then a b) ≡ (is_eq a && is_eq b)
both-equal Less b = refl
both-equal Equal b = refl
both-equal Greater b = refl

ties : (x y : LiveChild) → ((x.parent == y.parent) && (x.child == y.child)) ≡ eq_by_cmp child_cmp x y
ties x y =
    sym (both-equal (nat_cmp x.parent y.parent) (nat_cmp x.child y.child)
    ∙ ap (λ b. b && is_eq (nat_cmp x.child y.child)) (unsigned_tied x.parent y.parent)
    ∙ ap (λ b. (x.parent == y.parent) && b) (unsigned_tied x.child y.child))

each-below : (x : LiveChild) (xs : List LiveChild) → AllByRecursion (λ y. child_cmp x y ≡ Less) xs → Each (λ y. child_cmp x y ≡ Less) xs
each-below x [] all = tt
each-below x (y ∷ ys) all = (all.0, each-below x ys all.1)

strictly : (xs : List LiveChild) → IsStrictlySortedBy child_cmp xs → Pairs (λ x y. child_cmp x y ≡ Less) xs
unfolding IsStrictlySortedBy
strictly [] sorted = tt
strictly (x ∷ xs) sorted = (each-below x xs sorted.0, strictly xs sorted.1)

abbrev same-child : LiveChild → LiveChild → Bool
same-child = eq_by_cmp child_cmp

-- two of different children are not the same
apart : (x y : LiveChild) → (x.child == y.child) ≡ false → same-child x y ≡ false
apart x y e = sym (ties x y) ∙ ap (λ b. (x.parent == y.parent) && b) e ∙ with_false (x.parent == y.parent)
  where
    with_false : (b : Bool) → (b && false) ≡ false
    with_false true = refl
    with_false false = refl

apart-below : (x : LiveChild) (o : Option ℕ) (c : ℕ) (rest : List LiveChild) → (x.child == c) ≡ false → AllByRecursion (λ y. same-child x y ≡ false) rest → AllByRecursion (λ y. same-child x y ≡ false) (below o c rest)
apart-below x None c rest e all = all
apart-below x (Some p) c rest e all = (apart x (record { parent = p; child = c }) e, all)

apart-from : (m : Transactions) (x : LiveChild) (ys : List ℕ) → AllByRecursion (λ y. (x.child == y) ≡ false) ys → AllByRecursion (λ y. same-child x y ≡ false) (with_parents m ys)
apart-from m x [] all = tt
apart-from m x (y ∷ ys) all = apart-below x (parent_in m y) y (with_parents m ys) all.0 (apart-from m x ys all.1)

once-below : (m : Transactions) (o : Option ℕ) (c : ℕ) (ys : List ℕ) → AllByRecursion (λ y. (c == y) ≡ false) ys → IsDistinct same-child (with_parents m ys) → IsDistinct same-child (below o c (with_parents m ys))
once-below m None c ys all rest = rest
once-below m (Some p) c ys all rest = IsDistinct-cons same-child (record { parent = p; child = c }) (with_parents m ys) (apart-from m (record { parent = p; child = c }) ys all) rest

no-child_twice : IsDistinct same-child []
unfolding IsDistinct
no-child_twice = tt

-- different transactions are different children
listed-once : (m : Transactions) (xs : List ℕ) → IsDistinct ◌==◌ xs → IsDistinct same-child (with_parents m xs)
listed-once m [] once = no-child_twice
listed-once m (x ∷ xs) once = once-below m (parent_in m x) x xs (IsDistinct-head ◌==◌ x xs once) (listed-once m xs (IsDistinct-tail ◌==◌ x xs once))

-- where none is the same as one before it, none is left out
none-dropped : (x : LiveChild) (xs : List LiveChild) → IsDistinct same-child (x ∷ xs) → dedup_from same-child x xs ≡ x ∷ xs
none-dropped x [] once = refl
none-dropped x (y ∷ ys) once =
    ap (λ b. cond b (dedup_from same-child x ys) (x ∷ dedup_from same-child y ys)) (same-laws.symm y x ∙ (IsDistinct-head same-child x (y ∷ ys) once).0)
    ∙ ap (λ zs. x ∷ zs) (none-dropped y ys (IsDistinct-tail same-child x (y ∷ ys) once))
  where
    same-laws : IsEquivalence same-child
    same-laws = eq_by_cmp_equiv children_total

rising : (xs : List LiveChild) → IsDistinct same-child xs → IsSorted child_cmp xs → Pairs (λ x y. child_cmp x y ≡ Less) xs
rising [] once sorted = tt
rising (x ∷ xs) once sorted = subst (Pairs (λ x y. child_cmp x y ≡ Less)) (none-dropped x xs once) (strictly (dedup same-child (x ∷ xs)) (IsStrictlySortedBy-dedup children_total (λ y z. refl) (x ∷ xs) sorted))

-- rising numbers differ
rising-once : (xs : List ℕ) → IsStrictlyIncreasing xs → IsDistinct ◌==◌ xs
rising-once xs rises = subst (λ e. IsDistinct e xs) (λ i x y. unsigned_tied x y i) (IsDistinct-from_sorted nat_cmp xs (sorted_from_strictly_increasing xs rises))

-- what was listed once each, and then sorted, rises
pub ordered : (m : Transactions) (live : List ℕ) (found sorted : List LiveChild) → IsStrictlyIncreasing live → found ≡ with_parents m live → IsPermutation found sorted → IsSorted child_cmp sorted
    → Pairs (λ x y. child_cmp x y ≡ Less) sorted × ((x : LiveChild) → (In x sorted → In x found) × (In x found → In x sorted))
ordered m live found sorted rises are moved order = (
  rising sorted (IsDistinct-IsPermutation same-child (eq_by_cmp_equiv children_total).symm found sorted moved (subst (IsDistinct same-child) (sym are) (listed-once m live (rising-once live rises)))) order,
  λ x. (
    λ i. standing-in found x (Contains-permutation sorted found x (IsPermutation-sym found sorted moved) (contained sorted x i)),
    λ i. standing-in sorted x (Contains-permutation found sorted x moved (contained found x i)),
  ),
)

module _ (W : CallLaws) (s : State) (p : Parts) (j : Journaled) (core : IsCoreOf s p j) where
  abbrev forest : Transactions
  forest = p.forest

  pub all-children : (live : List ℕ) (found list : List LiveChild) → ((x : ℕ) → Contains live x → state_in forest x ≡ Some LiveState) → ((x : ℕ) → state_in forest x ≡ Some LiveState → Contains live x)
      → found ≡ with_parents forest live → Pairs (λ x y. child_cmp x y ≡ Less) list × ((x : LiveChild) → (In x list → In x found) × (In x found → In x list)) → AreLiveChildren s list
  all-children live found list sound all are told = record {
    order = told.0;
    exact = λ x. (
      λ i.
          let is = with-parent forest live x (subst (In x) are ((told.1 x).0 i)) in
          let now = sym (core.transactions.fates x.child) ∙ ap fate_in (sound x.child (contained live x.child is.0)) in
          let up = sym (core.transactions.parents x.child) ∙ is.1 in
          ((past W core.kept).live_up x.child x.parent now up, (is_child x.parent x.child).1 (now, up)),
      λ k.
          let is = (is_child x.parent x.child).0 k.1 in
          (told.1 x).1 (subst (In x) (sym are) (parented forest live x (standing-in live x.child (all x.child (fate-live (state_in forest x.child) (core.transactions.fates x.child ∙ is.0)))) (core.transactions.parents x.child ∙ is.1))),
    );
  }
    where
      is_child : (t x : ℕ) → In x (live_children s t) ↔ ((fate_of s x ≡ Some Live) × (parent posix_calls (history s) x ≡ Some t))
      is_child t x = (children posix_calls W.lawful (start W core.kept) (values W core.kept) (history s) core.kept.core.legal t).exact x
