-- The live children of a transaction, as the forest counts them.
use Rattle.std.proofs.Common.{◌≡◌, ◌<◌, ◌+◌, ◌-◌, ◌==◌, ◌&&◌, ℕ, zero, suc, Bool, true, false, cond, Option, Some, None, List, [], ◌∷◌, inl, inr, arith, refl, sym, ap, ◌∙◌, eq-eqb}
use Rattle.std.specs.Prelude.{slice_get, count_by}
use Rattle.std.proofs.lemmas.Bool.{false≢true, cases_lt, lt-ltb, le-ltb, and_parts}
use Rattle.std.proofs.lemmas.List.Sums.{sum_by-cons}
use Rattle.std.proofs.lemmas.Option.{slice_get_past}
use Rattle.ft_laws.proofs.Tests.{by_test}
use Rattle.ft_history.specs.Forest.{is_some_and}
use Rattle.ft_forest.specs.declared.state.State.{State as Life}
use Rattle.ft_forest.specs.declared.state.State.TheVariants.{Live as LiveState, Committed as CommittedState, Aborted as AbortedState}
use Rattle.ft_forest.specs.Transactions.{Transaction, Transactions, transaction_in, parent_of, state_of, is_live_state, is_live_child, live_children_in, IsLiveChild}
use Rattle.ft_forest.proofs.Counting.{child-of}

absent : {A : Type 0} {x : A} → None ≡ Some x → ⊥
absent e = cc

live-of : (state : Life) → is_live_state state ≡ true → state ≡ LiveState
live-of LiveState e = refl
live-of CommittedState e = absurd (false≢true e)
live-of AbortedState e = absurd (false≢true e)

module _ (t : ℕ) where
  abbrev is_child : Option Transaction → Bool
  is_child None = false
  is_child (Some x) = is_live_child t x

  child-up : (o : Option Transaction) → is_child o ≡ true → (parent_of o ≡ Some t) × (state_of o ≡ Some LiveState)
  child-up None e = absurd (false≢true e)
  child-up (Some x) e = let both = and_parts (is_some_and x.parent (λ q. q == t)) (is_live_state x.state) e in (child-of x.parent t both.0, ap Some (live-of x.state both.1))

  child-down : (o : Option Transaction) → parent_of o ≡ Some t → state_of o ≡ Some LiveState → is_child o ≡ true
  child-down None up live = absurd (absent up)
  child-down (Some x) up live = ap (λ p. is_some_and p (λ q. q == t) && is_live_state x.state) up ∙ ap (λ b. b && is_live_state x.state) (eq-eqb t t refl) ∙ ap is_live_state (same live)
    where
      same : {a b : Life} → Some a ≡ Some b → a ≡ b
      same e = cc

  counted-first : (x : Transaction) (xs : List Transaction) → count_by (is_live_child t) (x ∷ xs) ≡ cond (is_live_child t x) 1 0 + count_by (is_live_child t) xs
  counted-first x xs = sum_by-cons (λ y. cond (is_live_child t y) 1 0) x xs

  found : (xs : List Transaction) → 0 < count_by (is_live_child t) xs → (i : ℕ) × (is_child (slice_get xs i) ≡ true)
  found [] lt = absurd (omega arith)
  found (x ∷ xs) lt = by_test (is_live_child t x)
      (λ k. (0, k))
      (λ k.
      let first = counted-first x xs in
      let none : cond {A = ℕ} (is_live_child t x) 1 0 ≡ 0 = ap (λ b. cond b 1 0) k in
      let rest = found xs (omega arith) in
      (suc rest.0, rest.1))

  not-found : (xs : List Transaction) → count_by (is_live_child t) xs ≡ 0 → (i : ℕ) → is_child (slice_get xs i) ≡ true → ⊥
  not-found [] e i is = false≢true (sym (ap is_child (slice_get_past [] i (omega arith))) ∙ is)
  not-found (x ∷ xs) e zero is =
      let first = counted-first x xs in
      let one : cond {A = ℕ} (is_live_child t x) 1 0 ≡ 1 = ap (λ b. cond b 1 0) is in
      omega arith
  not-found (x ∷ xs) e (suc i) is = let first = counted-first x xs in not-found xs (omega arith) i is

module _ (m : Transactions) (t : ℕ) where
  here : (i : ℕ) → transaction_in m (m.base + 1 + i) ≡ slice_get m.list i
  here i =
      let gap : m.base + 1 + i - (m.base + 1) ≡ i = omega arith in
      ap (λ b. cond b (slice_get m.list (m.base + 1 + i - (m.base + 1))) None) (lt-ltb m.base (m.base + 1 + i) (omega arith)) ∙ ap (slice_get m.list) gap

  -- one that is counted is there
  pub child-counted : 0 < live_children_in m t → (x : ℕ) × IsLiveChild m t x
  child-counted lt =
      let child = found t m.list lt in
      let is = child-up t (slice_get m.list child.0) child.1 in
      (m.base + 1 + child.0, record { child = ap parent_of (here child.0) ∙ is.0; live = ap state_of (here child.0) ∙ is.1 })

  -- if none is counted, none is there
  pub none-counted : live_children_in m t ≡ 0 → (x : ℕ) → IsLiveChild m t x → ⊥
  none-counted none x is =
      elim (cases_lt m.base x) [
        | inl lt ↦
            let number : x ≡ m.base + 1 + (x - (m.base + 1)) = omega arith in
            let at : transaction_in m x ≡ slice_get m.list (x - (m.base + 1)) = ap (transaction_in m) number ∙ here (x - (m.base + 1)) in
            not-found t m.list none (x - (m.base + 1)) (child-down t (slice_get m.list (x - (m.base + 1))) (sym (ap parent_of at) ∙ is.child) (sym (ap state_of at) ∙ is.live))
        | inr le ↦ absent (sym (ap (λ b. state_of (cond b (slice_get m.list (x - (m.base + 1))) None)) (le-ltb m.base x le)) ∙ is.live)
      ]
