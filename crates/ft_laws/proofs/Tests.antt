-- Case splits that keep the equation.
use Rattle.std.proofs.Common.{◌≡◌, ℕ, Bool, true, false, ◌==◌, Option, Some, None, sym, refl, ◌∙◌, eqb-true, eq-eqb}
use Rattle.std.proofs.lemmas.Bool.{false≢true}

pub by_test : {P : Type 0} (b : Bool) → (b ≡ true → P) → (b ≡ false → P) → P
by_test true t f = t refl
by_test false t f = f refl

pub by_option : {P A : Type 0} (o : Option A) → (o ≡ None → P) → ((x : A) → o ≡ Some x → P) → P
by_option None n s = n refl
by_option (Some x) n s = s x refl

pub by_number : {P : Type 0} (a b : ℕ) → (a ≡ b → P) → ((a ≡ b → ⊥) → P) → P
by_number a b t f = by_test (a == b) (λ e. t (eqb-true a b e)) (λ e. f (λ is. false≢true (sym e ∙ eq-eqb a b is)))

-- nothing is not something
pub none_some : {A : Type 0} (x : A) → None ≡ Some x → ⊥
none_some x e = cc
