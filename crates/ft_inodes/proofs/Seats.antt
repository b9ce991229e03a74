-- What stands at a place of a list, and what a change of it leaves.
use Rattle.std.proofs.Common.{◌≡◌, ◌≢◌, ◌<◌, ◌≤◌, ◌+◌, ◌-◌, ◌==◌, ℕ, zero, suc, List, [], ◌∷◌, ◌++◌, Option, Some, None, Bool, true, false, cond, length, set, take, refl, sym, ap, subst, arith, ◌∙◌}
use Rattle.std.proofs.lemmas.Bool.Decides.{nat_tests, leb_tells}
use Rattle.std.proofs.Math.Logic.{inl, inr}
use Rattle.std.specs.Prelude.{slice_get}
use Rattle.std.specs.List.{Contains}
use Rattle.std.specs.Ordering.{nat_cmp, eq_by_cmp}
use Rattle.std.specs.Cmp.{nat_cmp_total, unsigned_ties, eq_by_cmp_equiv}
use Rattle.std.specs.FinMap.{FinMap, get, insert, remove, get-insert, get-remove}

pub by_test : {P : Type 0} (b : Bool) → (b ≡ true → P) → (b ≡ false → P) → P
by_test {P} b when unless = elim b as (λ t. b ≡ t → P) [ true ↦ when | false ↦ unless ] refl

pub by_order : {P : Type 0} (a b : ℕ) → (a ≤ b → P) → (b < a → P) → P
by_order {P} a b low high = elim (leb_tells a b) as (λ _. P) [ inl h ↦ low h.1 | inr h ↦ high h.1 ]

is_same : (i j : ℕ) → (i == j) ≡ true → i ≡ j
is_same i j e = grind (arith, nat_tests)

is_other : (i j : ℕ) → (i == j) ≡ false → i ≢ j
is_other i j e = grind (arith, nat_tests)

other_test : (i j : ℕ) → i ≢ j → (i == j) ≡ false
other_test i j e = grind (arith, nat_tests)

itself : (i : ℕ) → (i == i) ≡ true
itself i = grind (arith, nat_tests)

-- two numbers are the same, or not
pub by_same : {P : Type 0} (i j : ℕ) → (i ≡ j → P) → (i ≢ j → P) → P
by_same i j same other = by_test (i == j) (λ e. same (is_same i j e)) (λ e. other (is_other i j e))

module _ {X : Type 0} where
  pub seat-push_end : (xs : List X) (x : X) → slice_get (xs ++ x ∷ []) (length xs) ≡ Some x
  seat-push_end [] x = refl
  seat-push_end (y ∷ xs) x = seat-push_end xs x

  pub seat-push_other : (xs : List X) (x : X) (j : ℕ) → j ≢ length xs → slice_get (xs ++ x ∷ []) j ≡ slice_get xs j
  seat-push_other [] x zero other = absurd (other refl)
  seat-push_other [] x (suc j) other = refl
  seat-push_other (y ∷ xs) x zero other = refl
  seat-push_other (y ∷ xs) x (suc j) other = seat-push_other xs x j (λ e. other (ap suc e))

  pub seat-past : (xs : List X) (i : ℕ) → length xs ≤ i → slice_get xs i ≡ None
  seat-past [] i past = refl
  seat-past (x ∷ xs) zero past = absurd (omega arith)
  seat-past (x ∷ xs) (suc i) past = seat-past xs i (omega arith)

  pub seat-within : (xs : List X) (i : ℕ) (x : X) → slice_get xs i ≡ Some x → i < length xs
  seat-within xs i x is = by_order (length xs) i (λ past. absurd (let no : Some x ≡ None = sym is ∙ seat-past xs i past in cc)) (λ lt. lt)

  pub seat-there : (xs : List X) (i : ℕ) → i < length xs → (x : X) × (slice_get xs i ≡ Some x)
  seat-there [] i lt = absurd (omega arith)
  seat-there (x ∷ xs) zero lt = (x, refl)
  seat-there (x ∷ xs) (suc i) lt = seat-there xs i (omega arith)

  pub seat-set_here : (xs : List X) (i : ℕ) (x : X) → i < length xs → slice_get (set xs i x) i ≡ Some x
  seat-set_here [] i x lt = absurd (omega arith)
  seat-set_here (y ∷ xs) zero x lt = refl
  seat-set_here (y ∷ xs) (suc i) x lt = seat-set_here xs i x (omega arith)

  pub seat-set_other : (xs : List X) (i j : ℕ) (x : X) → j ≢ i → slice_get (set xs i x) j ≡ slice_get xs j
  seat-set_other [] i j x other = refl
  seat-set_other (y ∷ xs) zero zero x other = absurd (other refl)
  seat-set_other (y ∷ xs) zero (suc j) x other = refl
  seat-set_other (y ∷ xs) (suc i) zero x other = refl
  seat-set_other (y ∷ xs) (suc i) (suc j) x other = seat-set_other xs i j x (λ e. other (ap suc e))

-- what a list contains, and the list behind its first
pub first : {X : Type 0} (x : X) (xs : List X) → Contains (x ∷ xs) x
first x xs = (0, omega arith, refl)

pub later : {X : Type 0} (x y : X) (xs : List X) → Contains xs y → Contains (x ∷ xs) y
later x y xs h = (suc h.0, (let within = h.1 in omega arith), h.2)

pub earlier : {X P : Type 0} (x y : X) (xs : List X) → Contains (x ∷ xs) y → (x ≡ y → P) → (Contains xs y → P) → P
earlier x y xs (zero, within, is) here there = here is
earlier x y xs (suc k, within, is) here there = there (k, omega arith, is)

turned : (k q : ℕ) → eq_by_cmp nat_cmp q k ≡ (k == q)
turned k q = sym (unsigned_ties k q ∙ (eq_by_cmp_equiv nat_cmp_total).symm k q)

module _ {V : Type 0} where
  pub put-here : (m : FinMap nat_cmp V) (k : ℕ) (v : V) → get (insert m k v) k ≡ Some v
  put-here m k v = get-insert nat_cmp_total m k v k ∙ ap (λ b. cond b (Some v) (get m k)) (turned k k ∙ itself k)

  pub put-other : (m : FinMap nat_cmp V) (k : ℕ) (v : V) (q : ℕ) → q ≢ k → get (insert m k v) q ≡ get m q
  put-other m k v q other = get-insert nat_cmp_total m k v q ∙ ap (λ b. cond b (Some v) (get m q)) (turned k q ∙ other_test k q (λ e. other (sym e)))

  pub gone-here : (m : FinMap nat_cmp V) (k : ℕ) → get (remove m k) k ≡ None
  gone-here m k = get-remove nat_cmp_total m k k ∙ ap (λ b. cond b None (get m k)) (turned k k ∙ itself k)

  pub gone-other : (m : FinMap nat_cmp V) (k q : ℕ) → q ≢ k → get (remove m k) q ≡ get m q
  gone-other m k q other = get-remove nat_cmp_total m k q ∙ ap (λ b. cond b None (get m q)) (turned k q ∙ other_test k q (λ e. other (sym e)))
