-- Two tables that read each other backwards, as a pair comes and as it goes.
use Rattle.std.proofs.Common.{◌≡◌, ◌↔◌, ℕ, Bool, true, false, cond, Option, Some, None, is_some, unwrap_or, refl, sym, ap, ◌∙◌}
use Rattle.std.proofs.lemmas.Bool.{false≢true, ne_eqb, eq-eqb}
use Rattle.std.specs.Ordering.{nat_cmp, eq_by_cmp}
use Rattle.std.specs.Cmp.{unsigned_tied, Equal-is}
use Rattle.std.specs.FinMap as finite

pub the_one : {A : Type 0} (x y : A) → Some x ≡ Some y → x ≡ y
the_one x y e = ap (λ o. unwrap_or o x) e

pub tie : (j k : ℕ) → j ≡ k → eq_by_cmp nat_cmp j k ≡ true
tie j k is = unsigned_tied j k ∙ eq-eqb j k is

pub no_tie : (j k : ℕ) → (j ≡ k → ⊥) → eq_by_cmp nat_cmp j k ≡ false
no_tie j k apart = unsigned_tied j k ∙ ne_eqb j k apart

pub tied : (j k : ℕ) → eq_by_cmp nat_cmp j k ≡ true → j ≡ k
tied j k e = finite.nat_cmp-IsAntisymmetric j k ((Equal-is (nat_cmp j k)).0 e)

pub untied : (j k : ℕ) → eq_by_cmp nat_cmp j k ≡ false → j ≡ k → ⊥
untied j k e is = false≢true (sym e ∙ tie j k is)

-- each key that the one has at a place, the other has the place of
abbrev pub IsPaired : {P : Type 0} → (P → Option ℕ) → (ℕ → Option P) → Type 0
IsPaired {P} f g = (x : P) (k : ℕ) → (f x ≡ Some k) ↔ (g k ≡ Some x)

module _ {P : Type 0} (same : P → P → Bool) (same-is : (x y : P) → same x y ≡ true → x ≡ y) (same-itself : (x : P) → same x x ≡ true) where
  module _ (f f' : P → Option ℕ) (g g' : ℕ → Option P) (c : P) (k : ℕ) (paired : IsPaired f g) where
    pub paired-put : g k ≡ None → f c ≡ None → ((q : P) → f' q ≡ cond (same c q) (Some k) (f q)) → ((j : ℕ) → g' j ≡ cond (eq_by_cmp nat_cmp j k) (Some c) (g j)) → IsPaired f' g'
    paired-put free absent put stand q j = (λ is. stand j ∙ stands (same c q) refl is, λ is. put q ∙ found (eq_by_cmp nat_cmp j k) refl (sym (stand j) ∙ is))
      where
        stands : (b : Bool) → same c q ≡ b → f' q ≡ Some j → cond (eq_by_cmp nat_cmp j k) (Some c) (g j) ≡ Some q
        stands true e is =
            let one : k ≡ j = the_one k j (sym (put q ∙ ap (λ b. cond b (Some k) (f q)) e) ∙ is) in
            ap (λ b. cond b (Some c) (g j)) (tie j k (sym one)) ∙ ap Some (same-is c q e)
        stands false e is =
            let there = (paired q j).0 (sym (put q ∙ ap (λ b. cond b (Some k) (f q)) e) ∙ is) in
            ap (λ b. cond b (Some c) (g j)) (no_tie j k (λ one. false≢true (ap is_some (sym free ∙ ap g (sym one) ∙ there)))) ∙ there

        found : (b : Bool) → eq_by_cmp nat_cmp j k ≡ b → cond (eq_by_cmp nat_cmp j k) (Some c) (g j) ≡ Some q → cond (same c q) (Some k) (f q) ≡ Some j
        found true e is =
            let one : c ≡ q = the_one c q (sym (ap (λ b. cond b (Some c) (g j)) e) ∙ is) in
            ap (λ b. cond b (Some k) (f q)) (ap (same c) (sym one) ∙ same-itself c) ∙ ap Some (sym (tied j k e))
        found false e is =
            let key = (paired q j).1 (sym (ap (λ b. cond b (Some c) (g j)) e) ∙ is) in
            by_place (same c q) refl key
          where
            by_place : (b : Bool) → same c q ≡ b → f q ≡ Some j → cond (same c q) (Some k) (f q) ≡ Some j
            by_place true d key = absurd (false≢true (ap is_some (sym absent ∙ ap f (same-is c q d) ∙ key)))
            by_place false d key = ap (λ b. cond b (Some k) (f q)) d ∙ key

    pub paired-out : g k ≡ Some c → ((q : P) → f' q ≡ cond (same c q) None (f q)) → ((j : ℕ) → g' j ≡ cond (eq_by_cmp nat_cmp j k) None (g j)) → IsPaired f' g'
    paired-out there out leave q j = (λ is. leave j ∙ stands (same c q) refl is, λ is. out q ∙ found (eq_by_cmp nat_cmp j k) refl (sym (leave j) ∙ is))
      where
        stands : (b : Bool) → same c q ≡ b → f' q ≡ Some j → cond (eq_by_cmp nat_cmp j k) None (g j) ≡ Some q
        stands true e is = absurd (false≢true (ap is_some (sym (out q ∙ ap (λ b. cond b None (f q)) e) ∙ is)))
        stands false e is =
            let here = (paired q j).0 (sym (out q ∙ ap (λ b. cond b None (f q)) e) ∙ is) in
            ap (λ b. cond b None (g j))
            (no_tie j k (λ one. false≢true (sym e ∙ ap (same c) (sym (the_one c q (sym there ∙ ap g (sym one) ∙ here))) ∙ same-itself c))) ∙ here

        found : (b : Bool) → eq_by_cmp nat_cmp j k ≡ b → cond (eq_by_cmp nat_cmp j k) None (g j) ≡ Some q → cond (same c q) None (f q) ≡ Some j
        found true e is = absurd (false≢true (ap is_some (sym (ap (λ b. cond b None (g j)) e) ∙ is)))
        found false e is =
            let key = (paired q j).1 (sym (ap (λ b. cond b None (g j)) e) ∙ is) in
            by_place (same c q) refl key
          where
            by_place : (b : Bool) → same c q ≡ b → f q ≡ Some j → cond (same c q) None (f q) ≡ Some j
            by_place true d key = absurd (untied j k e (the_one j k (sym key ∙ ap f (sym (same-is c q d)) ∙ (paired c k).1 there)))
            by_place false d key = ap (λ b. cond b None (f q)) d ∙ key

pub paired-same : {P : Type 0} (f f' : P → Option ℕ) (g g' : ℕ → Option P) → IsPaired f g → ((q : P) → f' q ≡ f q) → ((j : ℕ) → g' j ≡ g j) → IsPaired f' g'
paired-same f f' g g' paired fs gs q j = (λ is. gs j ∙ (paired q j).0 (sym (fs q) ∙ is), λ is. fs q ∙ (paired q j).1 (sym (gs j) ∙ is))
