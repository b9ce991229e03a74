-- The values of pairs of a number and a value that is lent to be read.
use Rattle.std.specs.Prelude.{ℕ, List, map}
use Rattle.std.specs.Borrow.{Bor}

-- the numbers with the values that are lent to be read
abbrev pub shown : {V : Type 0} → List (ℕ × Bor V) → List (ℕ × V)
shown pairs = map (λ pair. (pair.0, pair.1.now)) pairs
