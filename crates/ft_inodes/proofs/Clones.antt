-- A clone of a slab whose values are cloned to equal ones is the same.
use Rattle.std.proofs.Common.{◌≡◌, List, [], ◌∷◌, Option, Some, None, refl, ap}
use Rattle.std.specs.List.{AllZip}
use Rattle.slab.specs.Slab.{IsSlotClone}

module _ {X : Type 0} where
  same-slot : (x y : Option X) → IsSlotClone (λ a b. b ≡ a) x y → y ≡ x
  same-slot None y h = h
  same-slot (Some a) None h = absurd h
  same-slot (Some a) (Some b) h = ap Some h

  pub same-slots : (xs ys : List (Option X)) → AllZip (IsSlotClone (λ a b. b ≡ a)) xs ys → ys ≡ xs
  same-slots [] [] h = refl
  same-slots [] (y ∷ ys) h = absurd h
  same-slots (x ∷ xs) [] h = absurd h
  same-slots (x ∷ xs) (y ∷ ys) h = (λ i. same-slot x y h.0 i ∷ same-slots xs ys h.1 i)
