-- Walks up the forest.
use Rattle.std.proofs.Common.{◌≡◌, ◌≢◌, ◌<◌, ◌≤◌, ℕ, zero, suc, Bool, true, false, cond, ◌||◌, Option, Some, None, ◌⊎◌, inl, inr, sym, refl, ap, ◌∙◌, subst, arith, ◌==◌, eqb-true, eq-eqb, ne_eqb}
use Rattle.std.proofs.lemmas.Bool.{false≢true, or_cases, or_left, or_right, or_from}
use Rattle.ft_laws.proofs.Tests.{by_test, by_option}
use Rattle.ft_history.specs.Forest.{is_some_and, and_then, IsForest, meets, above, first_up, nearest}
use Rattle.ft_history.proofs.Words.{by_number, same_some, none_some, moved}

-- What is used of a forest, where above y x says that y is x or an ancestor of x.
pub record ForestLaws (parent : ℕ → Option ℕ) (above : ℕ → ℕ → Bool) : Type 0 where
  pub itself : (x : ℕ) → above x x ≡ true
  pub falls : (y x : ℕ) → above y x ≡ true → y ≤ x
  pub lower : (x p : ℕ) → parent x ≡ Some p → p < x
  pub over_parent : (x p y : ℕ) → parent x ≡ Some p → above x y ≡ true → above p y ≡ true
  pub to_parent : (x p y : ℕ) → parent x ≡ Some p → above y x ≡ true → (y ≡ x) ⊎ (above y p ≡ true)
  pub at_top : (x y : ℕ) → parent x ≡ None → above y x ≡ true → y ≡ x
  pub along : (x y z : ℕ) → above x y ≡ true → above y z ≡ true → above x z ≡ true

module _ (parent : ℕ → Option ℕ) (lower : IsForest parent) where
  -- more steps than the number change nothing
  meets_steps : (j k y x : ℕ) → x ≤ j → x ≤ k → meets parent j y x ≡ meets parent k y x
  meets_steps zero zero y x a b = refl
  meets_steps zero (suc k) y x a b = by_option (parent x)
      (λ e. grind (arith, e))
      (λ p e. let lt = lower x p e in absurd (omega arith))
  meets_steps (suc j) zero y x a b = by_option (parent x)
      (λ e. grind (arith, e))
      (λ p e. let lt = lower x p e in absurd (omega arith))
  meets_steps (suc j) (suc k) y x a b = by_option (parent x)
      (λ e. ap (λ o. (y == x) || is_some_and o (meets parent j y)) e ∙ sym (ap (λ o. (y == x) || is_some_and o (meets parent k y)) e))
      (λ p e. let lt = lower x p e in
      ap (λ o. (y == x) || is_some_and o (meets parent j y)) e ∙ ap (λ b. (y == x) || b) (meets_steps j k y p (omega arith) (omega arith))
      ∙ sym (ap (λ o. (y == x) || is_some_and o (meets parent k y)) e))

  first_steps : (over : ℕ → Bool) (j k x : ℕ) → x ≤ j → x ≤ k → first_up parent over j x ≡ first_up parent over k x
  first_steps over zero zero x a b = refl
  first_steps over zero (suc k) x a b = by_option (parent x)
      (λ e. sym (ap (λ o. cond (over x) (and_then o (first_up parent over k)) (Some x)) e))
      (λ p e. let lt = lower x p e in absurd (omega arith))
  first_steps over (suc j) zero x a b = by_option (parent x)
      (λ e. ap (λ o. cond (over x) (and_then o (first_up parent over j)) (Some x)) e)
      (λ p e. let lt = lower x p e in absurd (omega arith))
  first_steps over (suc j) (suc k) x a b = by_option (parent x)
      (λ e. ap (λ o. cond (over x) (and_then o (first_up parent over j)) (Some x)) e ∙ sym (ap (λ o. cond (over x) (and_then o (first_up parent over k)) (Some x)) e))
      (λ p e. let lt = lower x p e in
      ap (λ o. cond (over x) (and_then o (first_up parent over j)) (Some x)) e ∙ ap (λ b. cond (over x) b (Some x)) (first_steps over j k p (omega arith) (omega arith))
      ∙ sym (ap (λ o. cond (over x) (and_then o (first_up parent over k)) (Some x)) e))

  -- induction up the forest
  climb_below : (P : ℕ → Type 0) → ((x : ℕ) → parent x ≡ None → P x) → ((x p : ℕ) → parent x ≡ Some p → P p → P x) → (n x : ℕ) → x < n → P x
  climb_below P root child zero x h = absurd (omega arith)
  climb_below P root child (suc n) x h = by_option (parent x) (λ e. root x e) (λ p e. let lt = lower x p e in child x p e (climb_below P root child n p (omega arith)))

  pub climb : (P : ℕ → Type 0) → ((x : ℕ) → parent x ≡ None → P x) → ((x p : ℕ) → parent x ≡ Some p → P p → P x) → (x : ℕ) → P x
  climb P root child x = climb_below P root child (suc x) x (omega arith)

  -- the clauses of the two walks, without steps
  pub above_root : (y x : ℕ) → parent x ≡ None → above parent y x ≡ (y == x)
  above_root y x e = meets_steps x (suc x) y x (omega arith) (omega arith) ∙ ap (λ o. (y == x) || is_some_and o (meets parent x y)) e ∙ or_false (y == x)
    where
      or_false : (b : Bool) → (b || false) ≡ b
      or_false true = refl
      or_false false = refl

  pub above_child : (y x p : ℕ) → parent x ≡ Some p → above parent y x ≡ ((y == x) || above parent y p)
  above_child y x p e =
      let lt = lower x p e in
      meets_steps x (suc x) y x (omega arith) (omega arith) ∙ ap (λ o. (y == x) || is_some_and o (meets parent x y)) e
      ∙ ap (λ b. (y == x) || b) (meets_steps x p y p (omega arith) (omega arith))

  pub nearest_root : (over : ℕ → Bool) (x : ℕ) → parent x ≡ None → nearest parent over x ≡ cond (over x) None (Some x)
  nearest_root over x e = first_steps over x (suc x) x (omega arith) (omega arith) ∙ ap (λ o. cond (over x) (and_then o (first_up parent over x)) (Some x)) e

  pub nearest_child : (over : ℕ → Bool) (x p : ℕ) → parent x ≡ Some p → nearest parent over x ≡ cond (over x) (nearest parent over p) (Some x)
  nearest_child over x p e =
      let lt = lower x p e in
      first_steps over x (suc x) x (omega arith) (omega arith) ∙ ap (λ o. cond (over x) (and_then o (first_up parent over x)) (Some x)) e
      ∙ ap (λ b. cond (over x) b (Some x)) (first_steps over x p p (omega arith) (omega arith))

  above_itself : (x : ℕ) → above parent x x ≡ true
  above_itself x = by_option (parent x)
      (λ e. above_root x x e ∙ eq-eqb x x refl)
      (λ p e. above_child x x p e ∙ or_left (x == x) (above parent x p) (eq-eqb x x refl))

  above_falls : (y x : ℕ) → above parent y x ≡ true → y ≤ x
  above_falls y = climb (λ x. above parent y x ≡ true → y ≤ x)
      (λ x e h. let same = eqb-true y x (sym (above_root y x e) ∙ h) in omega arith)
      (λ x p e ih h. let lt = lower x p e in elim (or_cases (y == x) (above parent y p) (sym (above_child y x p e) ∙ h)) [
        | inl k ↦ let same = eqb-true y x k in omega arith
        | inr k ↦ let le = ih k in omega arith
      ])

  pub above_through : (y x p : ℕ) → parent x ≡ Some p → above parent y p ≡ true → above parent y x ≡ true
  above_through y x p e h = above_child y x p e ∙ or_right (y == x) (above parent y p) h

  above_over_parent : (x p y : ℕ) → parent x ≡ Some p → above parent x y ≡ true → above parent p y ≡ true
  above_over_parent x p y up = climb (λ z. above parent x z ≡ true → above parent p z ≡ true)
      (λ z e h. let same = eqb-true x z (sym (above_root x z e) ∙ h) in absurd (none_some p (sym e ∙ ap parent (sym same) ∙ up)))
      (λ z q e ih h. elim (or_cases (x == z) (above parent x q) (sym (above_child x z q e) ∙ h)) [
        | inl k ↦
            let same : q ≡ p = same_some q p (sym e ∙ ap parent (sym (eqb-true x z k)) ∙ up) in
            above_through p z q e (subst (λ w. above parent p w ≡ true) (sym same) (above_itself p))
        | inr k ↦ above_through p z q e (ih k)
      ])
      y

  above_along : (x y z : ℕ) → above parent x y ≡ true → above parent y z ≡ true → above parent x z ≡ true
  above_along x y z first = climb (λ w. above parent y w ≡ true → above parent x w ≡ true)
      (λ w e h. subst (λ v. above parent x v ≡ true) (eqb-true y w (sym (above_root y w e) ∙ h)) first)
      (λ w q e ih h. elim (or_cases (y == w) (above parent y q) (sym (above_child y w q e) ∙ h)) [
        | inl k ↦ subst (λ v. above parent x v ≡ true) (eqb-true y w k) first
        | inr k ↦ above_through x w q e (ih k)
      ])
      z

  -- Where the parents of what lives below x live, up to x, and no child of x lives, nothing lives
  -- below x.
  pub none_below : (Lives : ℕ → Type 0) (x : ℕ) → ((y p : ℕ) → Lives y → parent y ≡ Some p → above parent x p ≡ true → Lives p) → ((y : ℕ) → Lives y → parent y ≡ Some x → ⊥)
      → (y : ℕ) → above parent x y ≡ true → y ≢ x → Lives y → ⊥
  none_below Lives x up childless = climb (λ y. above parent x y ≡ true → y ≢ x → Lives y → ⊥)
      (λ y e h ne lives. ne (sym (eqb-true x y (sym (above_root x y e) ∙ h))))
      (λ y p e ih h ne lives. elim (or_cases (x == y) (above parent x p) (sym (above_child x y p e) ∙ h)) [
        | inl k ↦ ne (sym (eqb-true x y k))
        | inr k ↦ by_number p x
            (λ is. childless y lives (e ∙ ap Some is))
            (λ differ. ih k differ (up y p lives e k))
      ])

  pub forest_laws : ForestLaws parent (above parent)
  forest_laws = record {
    itself = above_itself;
    falls = above_falls;
    lower = lower;
    over_parent = above_over_parent;
    to_parent = λ x p y up h. elim (or_cases (y == x) (above parent y p) (sym (above_child y x p up) ∙ h)) [ inl k ↦ inl (eqb-true y x k) | inr k ↦ inr k ];
    at_top = λ x y up h. eqb-true y x (sym (above_root y x up) ∙ h);
    along = above_along;
  }

  -- the nearest is above, and isn't passed over
  pub nearest_above : (over : ℕ → Bool) (o x : ℕ) → nearest parent over x ≡ Some o → (above parent o x ≡ true) × (over o ≡ false)
  nearest_above over o = climb (λ x. nearest parent over x ≡ Some o → (above parent o x ≡ true) × (over o ≡ false))
      (λ x e h. by_test (over x)
      (λ k. absurd (none_some o (sym (nearest_root over x e ∙ ap (λ b. cond b None (Some x)) k) ∙ h)))
      (λ k. let same : x ≡ o = same_some x o (sym (nearest_root over x e ∙ ap (λ b. cond b None (Some x)) k) ∙ h) in
      (subst (λ w. above parent w x ≡ true) same (above_itself x), subst (λ w. over w ≡ false) same k)))
      (λ x p e ih h. by_test (over x)
      (λ k. let up = ih (sym (nearest_child over x p e ∙ ap (λ b. cond b (nearest parent over p) (Some x)) k) ∙ h) in (above_through o x p e up.0, up.1))
      (λ k. let same : x ≡ o = same_some x o (sym (nearest_child over x p e ∙ ap (λ b. cond b (nearest parent over p) (Some x)) k) ∙ h) in
      (subst (λ w. above parent w x ≡ true) same (above_itself x), subst (λ w. over w ≡ false) same k)))

  pub nearest_here : (over : ℕ → Bool) (x : ℕ) → over x ≡ false → nearest parent over x ≡ Some x
  nearest_here over x k = by_option (parent x)
      (λ e. nearest_root over x e ∙ ap (λ b. cond b None (Some x)) k)
      (λ p e. nearest_child over x p e ∙ ap (λ b. cond b (nearest parent over p) (Some x)) k)

  -- where one above isn't passed over, there is a nearest, at or below it
  pub nearest_under : (over : ℕ → Bool) (t x : ℕ) → over t ≡ false → above parent t x ≡ true → (o : ℕ) × (nearest parent over x ≡ Some o) × (above parent t o ≡ true)
  nearest_under over t x free = climb (λ z. above parent t z ≡ true → (o : ℕ) × (nearest parent over z ≡ Some o) × (above parent t o ≡ true))
      (λ z e h. let same = eqb-true t z (sym (above_root t z e) ∙ h) in (z, nearest_here over z (subst (λ w. over w ≡ false) same free), h))
      (λ z p e ih h. by_test (over z)
      (λ k. elim (or_cases (t == z) (above parent t p) (sym (above_child t z p e) ∙ h)) [
        | inl m ↦ absurd (false≢true (sym free ∙ ap over (eqb-true t z m) ∙ k))
        | inr m ↦ let up = ih m in (up.0, nearest_child over z p e ∙ ap (λ b. cond b (nearest parent over p) (Some z)) k ∙ up.1, up.2)
      ])
      (λ k. (z, nearest_here over z k, h)))
      x

  -- one more is passed over
  pub nearest_moved : (over : ℕ → Bool) (t : ℕ) → ((p : ℕ) → parent t ≡ Some p → over p ≡ false) → (x : ℕ) → nearest parent (λ z. (z == t) || over z) x ≡ moved t (parent t) (nearest parent over x)
  nearest_moved over t open_above = climb (λ x. nearest parent more x ≡ moved t (parent t) (nearest parent over x))
      (λ x e. by_test (over x)
      (λ k. nearest_root more x e ∙ ap (λ b. cond b None (Some x)) (or_right (x == t) (over x) k)
      ∙ sym (ap (moved t (parent t)) (nearest_root over x e ∙ ap (λ b. cond b None (Some x)) k)))
      (λ k. by_number x t
      (λ same. nearest_root more x e ∙ ap (λ b. cond b None (Some x)) (or_left (x == t) (over x) (eq-eqb x t same)) ∙ sym e ∙ ap parent same
      ∙ sym (ap (λ b. cond b (parent t) (Some x)) (eq-eqb x t same)) ∙ sym (ap (moved t (parent t)) (nearest_here over x k)))
      (λ differ. nearest_here more x (or_from (x == t) (over x) (ne_eqb x t differ) k)
      ∙ sym (ap (λ b. cond b (parent t) (Some x)) (ne_eqb x t differ)) ∙ sym (ap (moved t (parent t)) (nearest_here over x k)))))
      (λ x p e ih. by_test (over x)
      (λ k. nearest_child more x p e ∙ ap (λ b. cond b (nearest parent more p) (Some x)) (or_right (x == t) (over x) k) ∙ ih
      ∙ sym (ap (moved t (parent t)) (nearest_child over x p e ∙ ap (λ b. cond b (nearest parent over p) (Some x)) k)))
      (λ k. by_number x t
      (λ same.
      let lt = lower x p e in
      let up : parent t ≡ Some p = ap parent (sym same) ∙ e in
      nearest_child more x p e ∙ ap (λ b. cond b (nearest parent more p) (Some x)) (or_left (x == t) (over x) (eq-eqb x t same))
      ∙ nearest_here more p (or_from (p == t) (over p) (ne_eqb p t (λ z. absurd (omega arith))) (open_above p up)) ∙ sym up
      ∙ sym (ap (λ b. cond b (parent t) (Some x)) (eq-eqb x t same)) ∙ sym (ap (moved t (parent t)) (nearest_here over x k)))
      (λ differ. nearest_here more x (or_from (x == t) (over x) (ne_eqb x t differ) k)
      ∙ sym (ap (λ b. cond b (parent t) (Some x)) (ne_eqb x t differ)) ∙ sym (ap (moved t (parent t)) (nearest_here over x k)))))
    where
      more : ℕ → Bool
      more z = (z == t) || over z

-- A forest that has grown: the same below n.
module _ (old new : ℕ → Option ℕ) (old_lower : IsForest old) (new_lower : IsForest new) (n : ℕ) (agree : (x : ℕ) → x < n → new x ≡ old x) where
  pub above_grown : (y x : ℕ) → x < n → above new y x ≡ above old y x
  above_grown y = climb old old_lower (λ x. x < n → above new y x ≡ above old y x)
      (λ x e h. above_root new new_lower y x (agree x h ∙ e) ∙ sym (above_root old old_lower y x e))
      (λ x p e ih h. let lt = old_lower x p e in above_child new new_lower y x p (agree x h ∙ e) ∙ ap (λ b. (y == x) || b) (ih (omega arith)) ∙ sym (above_child old old_lower y x p e))

  pub nearest_grown : (over : ℕ → Bool) (x : ℕ) → x < n → nearest new over x ≡ nearest old over x
  nearest_grown over = climb old old_lower (λ x. x < n → nearest new over x ≡ nearest old over x)
      (λ x e h. nearest_root new new_lower over x (agree x h ∙ e) ∙ sym (nearest_root old old_lower over x e))
      (λ x p e ih h. let lt = old_lower x p e in nearest_child new new_lower over x p (agree x h ∙ e) ∙ ap (λ b. cond (over x) b (Some x)) (ih (omega arith)) ∙ sym (nearest_child old old_lower over x p e))
