-- A lock, and the granted call that it is of.
use Rattle.std.proofs.Common.{◌≡◌, ℕ, Bool, true, false, not, ◌==◌, ◌&&◌, ◌||◌, Option, Some, None, List, [], ◌∷◌, ◌++◌, inl, inr, sym, refl, ap, ◌∙◌, eqb-true, eq-eqb}
use Rattle.std.proofs.lemmas.Bool.{false≢true, and_parts, and_from, or_cases, or_left, or_right}
use Rattle.ft_laws.specs.Lists.{Each, In, any}
use Rattle.ft_laws.specs.Calls.{Calls, Done}
use Rattle.ft_laws.proofs.Tests.{by_test}
use Rattle.ft_history.specs.Forest.{is_some_and}
use Rattle.ft_history.specs.History.{Event, owner_of, grants}
use Rattle.ft_history.specs.Locks.{is_owner, holds_lock, retains_lock, owns_lock}

-- an element that passes
pub any_one : {A : Type 0} (test : A → Bool) (xs : List A) → any test xs ≡ true → (x : A) × In x xs × (test x ≡ true)
any_one test [] h = absurd (false≢true h)
any_one test (x ∷ xs) h = by_test (test x)
    (λ k. (x, inl refl, k))
    (λ k. let more = any_one test xs (sym (ap (λ b. b || any test xs) k) ∙ h) in (more.0, inr more.1, more.2))

pub one_any : {A : Type 0} (test : A → Bool) (x : A) (xs : List A) → In x xs → test x ≡ true → any test xs ≡ true
one_any test x [] i k = absurd i
one_any test x (y ∷ ys) (inl e) k = or_left (test y) (any test ys) (ap test (sym e) ∙ k)
one_any test x (y ∷ ys) (inr i) k = or_right (test y) (any test ys) (one_any test x ys i k)

pub any_agree : {A : Type 0} (p q : A → Bool) (xs : List A) → Each (λ x. p x ≡ q x) xs → any p xs ≡ any q xs
any_agree p q [] h = refl
any_agree p q (x ∷ xs) h = ap (λ b. b || any p xs) h.0 ∙ ap (λ b. q x || b) (any_agree p q xs h.1)

pub any_push : {A : Type 0} (p : A → Bool) (xs : List A) (x : A) → any p (xs ++ x ∷ []) ≡ (any p xs || p x)
any_push p [] x = or_none (p x)
  where
    or_none : (b : Bool) → (b || false) ≡ b
    or_none true = refl
    or_none false = refl
any_push p (y ∷ ys) x = ap (λ b. p y || b) (any_push p ys x) ∙ or_or (p y) (any p ys) (p x)
  where
    or_or : (a b c : Bool) → (a || (b || c)) ≡ ((a || b) || c)
    or_or true b c = refl
    or_or false b c = refl

-- the option is y
pub some_is : (o : Option ℕ) (y : ℕ) → is_some_and o (λ x. x == y) ≡ true → o ≡ Some y
some_is None y h = absurd (false≢true h)
some_is (Some x) y h = ap Some (eqb-true x y h)

pub is_some : (o : Option ℕ) (y : ℕ) → o ≡ Some y → is_some_and o (λ x. x == y) ≡ true
is_some o y e = ap (λ p. is_some_and p (λ x. x == y)) e ∙ eq-eqb y y refl

module _ (C : Calls) (h : List (Event C)) (y : ℕ) where
  -- a granted call that y owns now, whose asker is of this kind
  pub record Owned (kind : ℕ → Bool) (test : C.Accesses → Bool) : Type 0 where
    pub call : Done C
    pub granted : In call (grants C h)
    pub owner : owner_of C h call.asker ≡ Some y
    pub asker : kind call.asker ≡ true
    pub passes : test call.accesses ≡ true

  abbrev pub owned_by : (ℕ → Bool) → (C.Accesses → Bool) → Bool
  owned_by kind test = any (λ c. is_owner C h y c && (kind c.asker && test c.accesses)) (grants C h)

  pub owned : (kind : ℕ → Bool) (test : C.Accesses → Bool) → owned_by kind test ≡ true → Owned kind test
  owned kind test k =
      let one = any_one (λ c. is_owner C h y c && (kind c.asker && test c.accesses)) (grants C h) k in
      let c : Done C = one.0 in
      let parts = and_parts (is_owner C h y c) (kind c.asker && test c.accesses) one.2 in
      let rest = and_parts (kind c.asker) (test c.accesses) parts.1 in
      record { call = c; granted = one.1; owner = some_is (owner_of C h c.asker) y parts.0; asker = rest.0; passes = rest.1 }

  pub owning : (kind : ℕ → Bool) (test : C.Accesses → Bool) → Owned kind test → owned_by kind test ≡ true
  owning kind test o =
      let c : Done C = o.call in
      one_any (λ d. is_owner C h y d && (kind d.asker && test d.accesses)) c (grants C h) o.granted
      (and_from (is_owner C h y c) (kind c.asker && test c.accesses) (is_some (owner_of C h c.asker) y o.owner) (and_from (kind c.asker) (test c.accesses) o.asker o.passes))

  abbrev pub Anyone : (C.Accesses → Bool) → Type 0
  Anyone = Owned (λ a. true)

  -- what is held or retained
  pub owns_one : (test : C.Accesses → Bool) → owns_lock C h y test ≡ true → Anyone test
  owns_one test k = elim (or_cases (holds_lock C h y test) (retains_lock C h y test) k) [
    | inl m ↦ let o = owned (λ a. a == y) test m in record { call = o.call; granted = o.granted; owner = o.owner; asker = refl; passes = o.passes }
    | inr m ↦ let o = owned (λ a. not (a == y)) test m in record { call = o.call; granted = o.granted; owner = o.owner; asker = refl; passes = o.passes }
  ]

  pub one_owns : (test : C.Accesses → Bool) → Anyone test → owns_lock C h y test ≡ true
  one_owns test o = by_test (o.call.asker == y)
      (λ k. or_left (holds_lock C h y test) (retains_lock C h y test)
      (owning (λ a. a == y) test (record { call = o.call; granted = o.granted; owner = o.owner; asker = k; passes = o.passes })))
      (λ k. or_right (holds_lock C h y test) (retains_lock C h y test)
      (owning (λ a. not (a == y)) test (record { call = o.call; granted = o.granted; owner = o.owner; asker = ap not k; passes = o.passes })))
