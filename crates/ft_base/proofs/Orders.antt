-- The entries of a finite map from numbers, in their order and in others.
use Rattle.std.proofs.Common.{◌≡◌, ◌==◌, ◌&&◌, ◌<◌, ◌≤◌, ℕ, List, [], ◌∷◌, Option, Some, None, is_some, Bool, true, false, map, length, subst, refl, sym, ap, arith, ◌∙◌}
use Rattle.std.specs.Prelude.{T}
use Rattle.std.proofs.Math.ListN.{get_or}
use Rattle.std.proofs.lemmas.Bool.{eqb-true, false≢true}
use Rattle.std.proofs.lemmas.List.{length-map, get_or-map}
use Rattle.std.proofs.lemmas.List.Sorted.{length_permutation, Contains-permutation, IsPermutation-refl, IsPermutation-sym, IsPermutation-trans, IsPermutation-cons, IsPermutation-map, IsPermutation-remove}
use Rattle.std.proofs.lemmas.Map.{lookup-none}
use Rattle.std.proofs.lemmas.Map.Entries.{lookup_head, lookup_tail, none_past_head}
use Rattle.std.proofs.lemmas.Map.Keys.{IsDistinct-tail, IsDistinct-from_sorted, IsDistinct-IsPermutation, IsStrictlyIncreasing-from_distinct, sorted_from_strictly_increasing, sorted_head, sorted_tail}
use Rattle.std.proofs.lemmas.Map.Views.{Contains-from_lookup, lookup-from_Contains}
use Rattle.std.specs.Ordering.{is_lt, nat_cmp}
use Rattle.std.specs.declared.cmp.Ordering.TheVariants.{Less, Equal, Greater}
use Rattle.std.specs.declared.cmp.Ordering.{Ordering}
use Rattle.std.specs.Cmp.{nat_cmp_total, nat_eq_equiv, unsigned_tied}
use Rattle.std.specs.List.{IsDistinct, AllByRecursion, remove}
use Rattle.std.specs.List.Sorted.{IsPermutation, IsStrictlySortedBy, IsNonDecreasingBy, IsNonDecreasing}
use Rattle.std.specs.Map.{keys_of}
use Rattle.std.specs.FinMap.{FinMap, entries, entries_sorted, get, get-entries, from_entries, from_sorted, get-from_sorted, entries-from_sorted, is_sorted, same_map, len, len-entries, nat_cmp-IsAntisymmetric}
use Rattle.std.specs.FinMap.Entries.{below_all}
use Rattle.ft_base.proofs.Views.{at, find_at, get-seen}

both : (a b : Bool) → T a → T b → T (a && b)
both true b p q = q
both false b p q = p

first : (a b : Bool) → T (a && b) → T a
first true b p = tt
first false b p = p

second : (a b : Bool) → T (a && b) → T b
second true b p = p
second false b p = absurd p

less : (r : Ordering) → T (is_lt r) → r ≡ Less
less Less p = refl
less Equal p = absurd p
less Greater p = absurd p

module _ {X : Type 0} where
  above_each : (k : ℕ) (es : List (ℕ × X)) → T (below_all nat_cmp k es) → AllByRecursion (λ y. nat_cmp k y ≡ Less) (keys_of es)
  above_each k [] h = tt
  above_each k (e ∷ es) h = (less _ (first _ _ h), above_each k es (second _ _ h))

  rise : (es : List (ℕ × X)) → T (is_sorted nat_cmp es) → IsStrictlySortedBy nat_cmp (keys_of es)
  unfolding IsStrictlySortedBy
  rise [] h = tt
  rise (e ∷ es) h = (above_each e.0 es (first _ _ h), rise es (second _ _ h))

  below_each : (k : ℕ) (es : List (ℕ × X)) → AllByRecursion (λ y. nat_cmp k y ≡ Less) (keys_of es) → T (below_all nat_cmp k es)
  below_each k [] h = tt
  below_each k (e ∷ es) h = both _ _ (subst (λ r. T (is_lt r)) (sym h.0) tt) (below_each k es h.1)

  rising : (es : List (ℕ × X)) → IsStrictlySortedBy nat_cmp (keys_of es) → T (is_sorted nat_cmp es)
  rising [] h = tt
  rising (e ∷ es) h = both _ _ (below_each e.0 es (sorted_head nat_cmp e.0 (keys_of es) h)) (rising es (sorted_tail nat_cmp e.0 (keys_of es) h))

  -- the numbers of a map's entries differ
  pub distinct : (m : FinMap nat_cmp X) → IsDistinct (λ k q. k == q) (keys_of (entries m))
  distinct m = subst (λ e. IsDistinct e (keys_of (entries m))) (λ i k q. unsigned_tied k q i) (IsDistinct-from_sorted nat_cmp _ (rise (entries m) (entries_sorted m)))

  get-at : (m : FinMap nat_cmp X) (q : ℕ) → get m q ≡ at (entries m) q
  get-at m q = get-entries m q ∙ find_at (entries m) q

  -- what stands at a number stands there in any order
  moved : (es fs : List (ℕ × X)) → IsPermutation es fs → IsDistinct (λ k q. k == q) (keys_of fs) → (q : ℕ) (v : X) → at es q ≡ Some v → at fs q ≡ Some v
  moved es fs same apart q v is = lookup-from_Contains nat_eq_equiv q v fs apart (Contains-permutation es fs (q, v) same (Contains-from_lookup eqb-true q v es is))

  by_value : (o p : Option X) → ((v : X) → o ≡ Some v → p ≡ Some v) → ((v : X) → p ≡ Some v → o ≡ Some v) → p ≡ o
  by_value (Some v) p to back = to v refl
  by_value None (Some w) to back = sym (back w refl)
  by_value None None to back = refl

  same_at : (es fs : List (ℕ × X)) → IsPermutation es fs → IsDistinct (λ k q. k == q) (keys_of es) → IsDistinct (λ k q. k == q) (keys_of fs) → (q : ℕ) → at fs q ≡ at es q
  same_at es fs same c d q = by_value (at es q) (at fs q) (moved es fs same d q) (moved fs es (IsPermutation-sym _ _ same) c q)

  still : (es fs : List (ℕ × X)) → IsPermutation es fs → IsDistinct (λ k q. k == q) (keys_of es) → IsDistinct (λ k q. k == q) (keys_of fs)
  still es fs same d = IsDistinct-IsPermutation (λ k q. k == q) nat_eq_equiv.symm _ _ (IsPermutation-map (λ e. e.0) _ _ same) d

  past : (x : ℕ × X) (xs : List (ℕ × X)) → IsDistinct (λ k q. k == q) (keys_of (x ∷ xs)) → (q : ℕ) → (q == x.0) ≡ true → at xs q ≡ None
  past x xs d q is = lookup-none (λ k. q == k) xs (none_past_head nat_eq_equiv q x xs d is)

  -- without their first entries two lists are still alike
  rest : (x : ℕ × X) (xs ys : List (ℕ × X)) → IsDistinct (λ k q. k == q) (keys_of (x ∷ xs)) → IsDistinct (λ k q. k == q) (keys_of (x ∷ ys)) → ((q : ℕ) → at (x ∷ xs) q ≡ at (x ∷ ys) q) → (q : ℕ) → at xs q ≡ at ys q
  rest x xs ys c d h q = by_test (q == x.0) refl
    where
      by_test : (b : Bool) → (q == x.0) ≡ b → at xs q ≡ at ys q
      by_test true is = past x xs c q is ∙ sym (past x ys d q is)
      by_test false is = sym (lookup_tail (λ k. q == k) x xs is) ∙ h q ∙ lookup_tail (λ k. q == k) x ys is

  -- lists that have the same at each number have the same entries
  shuffled : (es fs : List (ℕ × X)) → IsDistinct (λ k q. k == q) (keys_of es) → IsDistinct (λ k q. k == q) (keys_of fs) → ((q : ℕ) → at es q ≡ at fs q) → IsPermutation es fs
  shuffled [] [] c d h = IsPermutation-refl []
  shuffled [] (y ∷ ys) c d h = absurd (false≢true (ap is_some (h y.0 ∙ lookup_head (λ k. y.0 == k) y ys (nat_eq_equiv.refl y.0))))
  shuffled (x ∷ xs) fs c d h =
      let place = Contains-from_lookup eqb-true x.0 x.1 fs (sym (h x.0) ∙ lookup_head (λ k. x.0 == k) x xs (nat_eq_equiv.refl x.0)) in
      let pulled : IsPermutation fs (x ∷ remove fs place.0) = IsPermutation-remove fs place.0 x place.1 (sym place.2) in
      let apart = still fs (x ∷ remove fs place.0) pulled d in
      let alike = rest x xs (remove fs place.0) c apart (λ q. h q ∙ sym (same_at fs (x ∷ remove fs place.0) pulled d apart q)) in
      IsPermutation-trans _ _ _ (IsPermutation-cons x _ _ (shuffled xs (remove fs place.0) (IsDistinct-tail _ x.0 _ c) (IsDistinct-tail _ x.0 _ apart) alike)) (IsPermutation-sym _ _ pulled)

  -- entries whose numbers differ are those of the map that they make, in some order
  pub entries-seen : (es : List (ℕ × X)) (m : FinMap nat_cmp X) → from_entries es ≡ m → IsDistinct (λ k q. k == q) (keys_of es) → IsPermutation (entries m) es
  entries-seen es m is apart = shuffled (entries m) es (distinct m) apart (λ q. sym (get-at m q) ∙ sym (get-seen es m q is))

  -- and there are as many
  pub len-seen : (es : List (ℕ × X)) (m : FinMap nat_cmp X) → from_entries es ≡ m → IsDistinct (λ k q. k == q) (keys_of es) → length es ≡ len m
  len-seen es m is apart = length_permutation _ _ (entries-seen es m is apart) ∙ sym (len-entries m)

  -- the entries of a map in some order, where that is the rising one, are its entries
  pub sorted-seen : (m : FinMap nat_cmp X) (es : List (ℕ × X)) → IsPermutation (entries m) es → IsNonDecreasing (keys_of es) → es ≡ entries m
  sorted-seen m es same up =
      let apart = still (entries m) es same (distinct m) in
      let strict = rising es (sorted_from_strictly_increasing (keys_of es) (IsStrictlyIncreasing-from_distinct (keys_of es) up apart)) in
      sym (entries-from_sorted nat_cmp es strict) ∙ ap entries (same_map nat_cmp_total nat_cmp-IsAntisymmetric (from_sorted es) m (λ q.
      get-from_sorted nat_cmp es q strict ∙ find_at es q ∙ same_at (entries m) es same (distinct m) apart q ∙ sym (get-at m q)))

-- numbers that rise along a list, as a list
pub rising_numbers : {Y : Type 0} (n : Y → ℕ) (ys : List Y) → IsNonDecreasingBy n ys → IsNonDecreasing (map n ys)
rising_numbers n [] up i j d le below = absurd (omega arith)
rising_numbers n (y ∷ ys) up i j d le below =
    let within : j < length (y ∷ ys) = subst (λ k. j < k) (length-map (y ∷ ys) n) below in
    subst (λ k. k ≤ get_or (map n (y ∷ ys)) j d) (sym (get_or-map n (y ∷ ys) i y d (omega arith)))
    (subst (λ k. n (get_or (y ∷ ys) i y) ≤ k) (sym (get_or-map n (y ∷ ys) j y d within)) (up i j y le within))
