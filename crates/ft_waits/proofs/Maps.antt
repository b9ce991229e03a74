-- A map from numbers after one change.
use Rattle.std.proofs.Common.{◌≡◌, ◌≢◌, ◌+◌, ◌-◌, ◌⊎◌, ℕ, true, false, cond, Some, None, nat_cmp, is_some, inl, inr, arith, sym, ap, ◌∙◌, eqb}
use Rattle.std.specs.Cmp.{nat_cmp_total, unsigned_tied}
use Rattle.std.specs.FinMap as finite
use Rattle.std.proofs.lemmas.Bool.{cases_eq}
use Rattle.std.proofs.lemmas.Bool.Decides.{nat_tests}

module _ {X : Type 0} (m : finite.FinMap nat_cmp X) (k : ℕ) where
  put-at : (v : X) (t : ℕ) → finite.get (finite.insert m k v) t ≡ cond (eqb t k) (Some v) (finite.get m t)
  put-at v t = finite.get-insert nat_cmp_total m k v t ∙ ap (λ b. cond b (Some v) (finite.get m t)) (unsigned_tied t k)

  gone-at : (t : ℕ) → finite.get (finite.remove m k) t ≡ cond (eqb t k) None (finite.get m t)
  gone-at t = finite.get-remove nat_cmp_total m k t ∙ ap (λ b. cond b None (finite.get m t)) (unsigned_tied t k)

  itself : eqb k k ≡ true
  itself = grind (arith, nat_tests)

  other_is : (t : ℕ) → t ≢ k → eqb t k ≡ false
  other_is t differs = grind (arith, nat_tests)

  pub put-same : (v : X) → finite.get (finite.insert m k v) k ≡ Some v
  put-same v = put-at v k ∙ ap (λ b. cond b (Some v) (finite.get m k)) itself

  pub put-other : (v : X) (t : ℕ) → t ≢ k → finite.get (finite.insert m k v) t ≡ finite.get m t
  put-other v t differs = put-at v t ∙ ap (λ b. cond b (Some v) (finite.get m t)) (other_is t differs)

  pub gone-same : finite.get (finite.remove m k) k ≡ None
  gone-same = gone-at k ∙ ap (λ b. cond b None (finite.get m k)) itself

  pub gone-other : (t : ℕ) → t ≢ k → finite.get (finite.remove m k) t ≡ finite.get m t
  gone-other t differs = gone-at t ∙ ap (λ b. cond b None (finite.get m t)) (other_is t differs)

  -- what is there stands at another key than one that is new
  pub new_key-differs : (t : ℕ) (v : X) → finite.get m k ≡ None → finite.get m t ≡ Some v → t ≢ k
  new_key-differs t v none some same = let at_k = ap (λ n. finite.get m n) same in cc

  pub len-put_new : (v : X) → finite.get m k ≡ None → finite.len (finite.insert m k v) ≡ finite.len m + 1
  len-put_new v none = finite.len-insert nat_cmp_total m k v ∙ ap (λ o. cond (is_some o) (finite.len m) (finite.len m + 1)) none

  not_empty : (v : X) → finite.get m k ≡ Some v → finite.len m ≢ 0
  not_empty v some none =
      let here = ap (λ (n : finite.FinMap nat_cmp X). finite.get n k) (finite.empty_of_len m none) in
      let nowhere = finite.get-empty {X = X} nat_cmp k in
      cc

  pub len-gone : (v : X) → finite.get m k ≡ Some v → finite.len (finite.remove m k) + 1 ≡ finite.len m
  len-gone v some =
      let fewer = finite.len-remove nat_cmp_total m k ∙ ap (λ o. cond (is_some o) (finite.len m - 1) (finite.len m)) some in
      let some_left = not_empty v some in
      omega arith

  -- to take out what is not there changes nothing
  pub gone-absent : finite.get m k ≡ None → finite.remove m k ≡ m
  gone-absent none = finite.same_map nat_cmp_total finite.nat_cmp-IsAntisymmetric (finite.remove m k) m (λ t. elim (cases_eq t k) [
    | inl same ↦ ap (λ n. finite.get (finite.remove m k) n) same ∙ gone-same ∙ sym none ∙ ap (λ n. finite.get m n) (sym same)
    | inr other ↦ gone-other t other
  ])

  put-other_cases : (v : X) (t : ℕ) → finite.contains_key (finite.insert m k v) t ≡ true → (t ≡ k) ⊎ (finite.contains_key m t ≡ true)
  put-other_cases v t there = elim (cases_eq t k) [
    | inl same ↦ inl same
    | inr other ↦ inr (ap (λ o. is_some o) (sym (put-other v t other)) ∙ there)
  ]

  -- the keys after an insert
  pub put-keys : (n : finite.FinMap nat_cmp X) (v : X) → n ≡ finite.insert m k v → (finite.contains_key n k ≡ true) × ((t : ℕ) → finite.contains_key m t ≡ true → finite.contains_key n t ≡ true) × ((t : ℕ) → finite.contains_key n t ≡ true → (t ≡ k) ⊎ (finite.contains_key m t ≡ true))
  put-keys n v is = (
    ap (λ (x : finite.FinMap nat_cmp X). finite.contains_key x k) is ∙ ap (λ o. is_some o) (put-same v),
    λ t there. ap (λ (x : finite.FinMap nat_cmp X). finite.contains_key x t) is ∙ elim (cases_eq t k) [
      | inl same ↦ ap (λ q. finite.contains_key (finite.insert m k v) q) same ∙ ap (λ o. is_some o) (put-same v)
      | inr other ↦ ap (λ o. is_some o) (put-other v t other) ∙ there
    ],
    λ t there. put-other_cases v t (ap (λ (x : finite.FinMap nat_cmp X). finite.contains_key x t) (sym is) ∙ there),
  )
