-- Case splits that keep the equation, and keys that tie.
use Rattle.std.proofs.Common.{◌≡◌, Bool, true, false, ◌||◌, ◌&&◌, not, Option, Some, None, Ordering, refl, sym, ap, ◌∙◌}
use Rattle.std.proofs.lemmas.Bool.{false≢true}
use Rattle.std.specs.declared.cmp.Ordering.TheVariants.{Less, Equal, Greater}
use Rattle.std.specs.Ordering.{is_eq, eq_by_cmp}
use Rattle.std.specs.Cmp.{IsTotalOrder, tied_itself}
use Rattle.std.proofs.lemmas.Map.Lookups.{CmpEqualImpliesEq}

pub by_test : {P : Type 0} (b : Bool) → (b ≡ true → P) → (b ≡ false → P) → P
by_test true t f = t refl
by_test false t f = f refl

pub by_option : {P A : Type 0} (o : Option A) → (o ≡ None → P) → ((x : A) → o ≡ Some x → P) → P
by_option None n s = n refl
by_option (Some x) n s = s x refl

-- what cannot be
pub unlike : {P : Type 0} {b : Bool} → b ≡ true → b ≡ false → P
unlike t f = absurd (false≢true (sym f ∙ t))

pub both-left : (a b : Bool) → (a && b) ≡ true → a ≡ true
both-left true b h = refl
both-left false b h = absurd (false≢true h)

pub both-right : (a b : Bool) → (a && b) ≡ true → b ≡ true
both-right true b h = h
both-right false b h = absurd (false≢true h)

pub both-of : (a b : Bool) → a ≡ true → b ≡ true → (a && b) ≡ true
both-of a b p q = ap (λ x. x && b) p ∙ q

pub none-left : (a b : Bool) → (a || b) ≡ false → a ≡ false
none-left true b h = absurd (false≢true (sym h))
none-left false b h = refl

pub none-right : (a b : Bool) → (a || b) ≡ false → b ≡ false
none-right true b h = absurd (false≢true (sym h))
none-right false b h = h

pub none-of : (a b : Bool) → a ≡ false → b ≡ false → (a || b) ≡ false
none-of a b p q = ap (λ x. x || b) p ∙ q

pub not-true : (a : Bool) → not a ≡ true → a ≡ false
not-true true h = absurd (false≢true h)
not-true false h = refl

pub not-of : (a : Bool) → a ≡ false → not a ≡ true
not-of a h = ap not h

pub tied_from : (r : Ordering) → is_eq r ≡ true → r ≡ Equal
tied_from Less h = absurd (false≢true h)
tied_from Equal h = refl
tied_from Greater h = absurd (false≢true h)

module _ {K : Type 0} {R : K → K → Ordering} where
  -- keys that tie are one
  pub tied-is : CmpEqualImpliesEq R → (x y : K) → eq_by_cmp R x y ≡ true → x ≡ y
  tied-is exact x y h = exact x y (tied_from (R x y) h)

  pub tied-itself : IsTotalOrder R → (x : K) → eq_by_cmp R x x ≡ true
  tied-itself o x = ap is_eq (tied_itself o x)
