-- Whether one map is a clone of another (as Rust's `Clone`).
use Rattle.std.specs.Prelude.{ℕ, Option, Some, None}
use Rattle.std.specs.Ordering.{nat_cmp}
use Rattle.std.specs.FinMap as finite

-- both have a value, and the two values are related, or neither has one
abbrev pub Both : {V : Type 0} → (V → V → Type 0) → Option V → Option V → Type 0
Both R None None = Unit {0}
Both R None (Some y) = ⊥
Both R (Some x) None = ⊥
Both R (Some x) (Some y) = R x y

-- n has the keys of m, and at each of them a clone of its value
abbrev pub IsTableClone : {V : Type 0} → (V → V → Type 0) → finite.FinMap nat_cmp V → finite.FinMap nat_cmp V → Type 0
IsTableClone C m n = (key : ℕ) → Both C (finite.get m key) (finite.get n key)
