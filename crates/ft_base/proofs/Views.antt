-- The finite map that the entries of a hashed map from numbers make: what it has at a number, and
-- what a change of one number leaves.
use Rattle.std.proofs.Common.{◌≡◌, ◌==◌, ℕ, List, [], ◌∷◌, Some, None, Option, IsSome, cond, subst, refl, sym, ap, ◌∙◌}
use Rattle.std.proofs.lemmas.Bool.{false≢true}
use Rattle.std.specs.Ordering.{nat_cmp, eq_by_cmp}
use Rattle.std.specs.Cmp.{nat_cmp_total, unsigned_tied, unsigned_ties, eq_by_cmp_equiv}
use Rattle.std.specs.Map.{lookup}
use Rattle.std.specs.FinMap.{FinMap, find, get, insert, remove, from_entries, get-insert, get-remove, get-from_entries, same_map, nat_cmp-IsAntisymmetric}

turned : (k q : ℕ) → (k == q) ≡ eq_by_cmp nat_cmp q k
turned k q = unsigned_ties k q ∙ (eq_by_cmp_equiv nat_cmp_total).symm k q

module _ {X : Type 0} where
  -- what stands at a number
  abbrev pub at : List (ℕ × X) → ℕ → Option X
  at es q = lookup (λ k. q == k) es

  pub find_at : (es : List (ℕ × X)) (q : ℕ) → find nat_cmp q es ≡ at es q
  find_at [] q = refl
  find_at (e ∷ es) q = λ i. cond (unsigned_tied q e.0 i) (Some e.1) (find_at es q i)

  -- what the map has at a number
  pub get-view : (es : List (ℕ × X)) (q : ℕ) → get (from_entries {R = nat_cmp} es) q ≡ at es q
  get-view es q = get-from_entries nat_cmp_total es q ∙ find_at es q

  -- the same, of the map that the entries are seen as
  pub get-seen : (es : List (ℕ × X)) (m : FinMap nat_cmp X) (q : ℕ) → from_entries es ≡ m → at es q ≡ get m q
  get-seen es m q is = sym (get-view es q) ∙ ap (λ n. get n q) is

  -- where the entries have nothing at a number, the map has no place there
  pub no_place : (es : List (ℕ × X)) (q : ℕ) (m : FinMap nat_cmp X) → from_entries es ≡ m → at es q ≡ None → IsSome (get m q) → ⊥
  no_place es q m is none place = false≢true (subst IsSome (sym (get-seen es m q is) ∙ none) place)

  -- entries that have another value at one number
  pub view-put : (es fs : List (ℕ × X)) (m : FinMap nat_cmp X) (k : ℕ) (v : X) → from_entries es ≡ m
      → ((q : ℕ) → at fs q ≡ cond (k == q) (Some v) (at es q)) → from_entries fs ≡ insert m k v
  view-put es fs m k v is h = same_map nat_cmp_total nat_cmp-IsAntisymmetric _ _ (λ q.
      get-view fs q ∙ h q ∙ ap (λ b. cond b (Some v) (at es q)) (turned k q)
      ∙ ap (cond (eq_by_cmp nat_cmp q k) (Some v)) (get-seen es m q is) ∙ sym (get-insert nat_cmp_total m k v q))

  -- entries that have nothing at one number
  pub view-remove : (es fs : List (ℕ × X)) (m : FinMap nat_cmp X) (k : ℕ) → from_entries es ≡ m
      → ((q : ℕ) → at fs q ≡ cond (k == q) None (at es q)) → from_entries fs ≡ remove m k
  view-remove es fs m k is h = same_map nat_cmp_total nat_cmp-IsAntisymmetric _ _ (λ q.
      get-view fs q ∙ h q ∙ ap (λ b. cond b None (at es q)) (turned k q)
      ∙ ap (cond (eq_by_cmp nat_cmp q k) None) (get-seen es m q is) ∙ sym (get-remove nat_cmp_total m k q))
