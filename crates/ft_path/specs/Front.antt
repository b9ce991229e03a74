-- The beginning of a text of bytes, as one number.
use Rattle.std.specs.Prelude.{◌<◌, ◌+◌, ◌*◌, ℕ, zero, suc, List, [], ◌∷◌}
use Rattle.std.specs.List.{AllByRecursion}

-- a number followed by `count` more digits to base 256: the bytes in turn, and zeros if there are
-- no more bytes
abbrev pub with_digits : ℕ → ℕ → List ℕ → ℕ
with_digits zero number bytes = number
with_digits (suc count) number [] = with_digits count (number * 256) []
with_digits (suc count) number (byte ∷ bytes) = with_digits count (number * 256 + byte) bytes

-- the first eight bytes as a number, the first of them the greatest digit; missing bytes count as
-- zeros
abbrev pub front_of : List ℕ → ℕ
front_of bytes = with_digits 8 0 bytes

-- each is less than 256
abbrev pub AreBytes : List ℕ → Type 0
AreBytes bytes = AllByRecursion (λ byte. byte < 256) bytes
