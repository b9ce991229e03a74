-- A clone of a table whose values are cloned to equal ones is the same.
use Rattle.std.proofs.Common.{◌≡◌, Option, Some, None, refl, ap}
use Rattle.std.specs.Ordering.{nat_cmp}
use Rattle.std.specs.Cmp.{nat_cmp_total}
use Rattle.std.specs.FinMap.{FinMap, get, same_map, nat_cmp-IsAntisymmetric}
use Rattle.ft_base.specs.Copies.{Both, IsTableClone}

module _ {X : Type 0} where
  same-both : {C : X → X → Type 0} → ((x y : X) → C x y → y ≡ x) → (a b : Option X) → Both C a b → b ≡ a
  same-both exact None None h = refl
  same-both exact None (Some y) h = absurd h
  same-both exact (Some x) None h = absurd h
  same-both exact (Some x) (Some y) h = ap Some (exact x y h)

  clone-same_by : {C : X → X → Type 0} (m n : FinMap nat_cmp X) → IsTableClone C m n → ((x y : X) → C x y → y ≡ x) → n ≡ m
  clone-same_by m n h exact = same_map nat_cmp_total nat_cmp-IsAntisymmetric n m (λ q. same-both exact (get m q) (get n q) (h q))

  pub clone-same : (m n : FinMap nat_cmp X) → IsTableClone (λ x y. y ≡ x) m n → n ≡ m
  clone-same m n h = clone-same_by m n h (λ x y e. e)

module _ {X : Type 0} (C : Option X → Option X → Type 0) where
  same-place : ((y : X) → C None (Some y) → ⊥) → ((x : X) → C (Some x) None → ⊥) → ((x y : X) → C (Some x) (Some y) → y ≡ x) → (a b : Option X) → C a b → b ≡ a
  same-place no_some no_none exact None None h = refl
  same-place no_some no_none exact None (Some y) h = absurd (no_some y h)
  same-place no_some no_none exact (Some x) None h = absurd (no_none x h)
  same-place no_some no_none exact (Some x) (Some y) h = ap Some (exact x y h)

  -- a table of places, of which some are empty
  pub clone-same_places : (m n : FinMap nat_cmp (Option X)) → IsTableClone C m n
      → ((y : X) → C None (Some y) → ⊥) → ((x : X) → C (Some x) None → ⊥) → ((x y : X) → C (Some x) (Some y) → y ≡ x) → n ≡ m
  clone-same_places m n h no_some no_none exact = clone-same_by m n h (same-place no_some no_none exact)
