-- A list whose first two values are kept apart from the others.
use Rattle.std.specs.Prelude.{List, [], ◌∷◌, Option, None, Some}

-- the values in their order: the first, the second, and the others
abbrev pub in_a_row : {T : Type 0} → Option T → Option T → List T → List T
in_a_row None second more = []
in_a_row (Some a) None more = a ∷ []
in_a_row (Some a) (Some b) more = a ∷ b ∷ more

-- no empty place comes before a filled one
abbrev pub AreFilled : {T : Type 0} → Option T → Option T → List T → Type 0
AreFilled None None [] = Unit {0}
AreFilled None None (x ∷ xs) = ⊥
AreFilled None (Some b) more = ⊥
AreFilled (Some a) None [] = Unit {0}
AreFilled (Some a) None (x ∷ xs) = ⊥
AreFilled (Some a) (Some b) more = Unit {0}
