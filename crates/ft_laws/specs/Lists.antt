-- Properties of lists, each by recursion on the list.
use Rattle.std.specs.Prelude.{◌≡◌, Bool, false, ◌||◌, List, [], ◌∷◌, ◌⊎◌}

-- P holds of each element.
abbrev pub Each : {A : Type 0} → (A → Type 0) → List A → Type 0
Each P [] = Unit {0}
Each P (x ∷ xs) = P x × Each P xs

-- R holds of each element and each later one.
abbrev pub Pairs : {A : Type 0} → (A → A → Type 0) → List A → Type 0
Pairs R [] = Unit {0}
Pairs R (x ∷ xs) = Each (R x) xs × Pairs R xs

-- x is in the list.
abbrev pub In : {A : Type 0} → A → List A → Type 0
In x [] = ⊥
In x (y ∷ ys) = (x ≡ y) ⊎ In x ys

-- Some element passes the test.
abbrev pub any : {A : Type 0} → (A → Bool) → List A → Bool
any p [] = false
any p (x ∷ xs) = p x || any p xs
