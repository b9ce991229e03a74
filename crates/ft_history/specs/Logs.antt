-- Lists, one for each transaction, newest first, and how each event changes them.
use Rattle.std.specs.Prelude.{ℕ, Bool, cond, ◌==◌, Option, Some, None, List, [], ◌∷◌, ◌++◌}

-- the elements that pass the test
abbrev pub passing : {A : Type 0} → (A → Bool) → List A → List A
passing p [] = []
passing p (x ∷ xs) = cond (p x) (x ∷ passing p xs) (passing p xs)

-- the lists of the elements, one after another
abbrev pub joined : {A B : Type 0} → (A → List B) → List A → List B
joined f [] = []
joined f (x ∷ xs) = f x ++ joined f xs

-- f with a new value at n
abbrev pub put : {A : Type 0} → (ℕ → A) → ℕ → A → ℕ → A
put f n new x = cond (x == n) new (f x)

-- all but the newest
abbrev pub rest : {A : Type 0} → List A → List A
rest [] = []
rest (x ∷ xs) = xs

-- A granted call is added to t's list, as its newest.
abbrev pub pushed : {A : Type 0} → (ℕ → List A) → ℕ → A → ℕ → List A
pushed log t x = put log t (x ∷ log t)

-- An undo removes the newest of the asker's list.
abbrev pub popped : {A : Type 0} → (ℕ → List A) → Option ℕ → ℕ → List A
popped log None = log
popped log (Some t) = put log t (rest (log t))

-- A commit adds t's list to its parent's list, as newer than all of it. If there is no parent, it
-- drops the list.
abbrev pub handed : {A : Type 0} → (ℕ → List A) → ℕ → Option ℕ → ℕ → List A
handed log t None = put log t []
handed log t (Some p) = put (put log p (log t ++ log p)) t []

-- An abort empties the lists of t and of all transactions below it.
abbrev pub emptied : {A : Type 0} → (ℕ → ℕ → Bool) → (ℕ → List A) → ℕ → ℕ → List A
emptied above log t x = cond (above t x) [] (log x)
