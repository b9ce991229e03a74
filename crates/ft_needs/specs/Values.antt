-- The text of a limit: digits, or `none`, which means the greatest; a size may have `K`, `M` or `G`
-- after its digits, which count in 2^10, 2^20 and 2^30.
use Rattle.std.specs.Prelude.{◌==◌, ◌-◌, ◌*◌, ◌^◌, ℕ, Bool, nat_le, nat_eq, List, [], ◌∷◌, ◌++◌, codes, length, take, drop, if◌then◌else◌, Option, None, Some, option_and_then}
use Rattle.std.specs.Cmp.Lexicographic.{pointwise}
use Rattle.std.specs.Fmt.{decimal}
use Rattle.std.specs.Str.{bytes_eq}
use Rattle.ft_words.specs.Spelling.{parse_u64}

-- a number that is not beyond the greatest
abbrev pub up_to : ℕ → ℕ → Option ℕ
up_to most number = if nat_le number most then Some number else None

-- the limit that a text gives, if this is the greatest
abbrev pub limit_of : List ℕ → ℕ → Option ℕ
limit_of text most = if bytes_eq text (codes "none") then Some most else option_and_then (up_to most) (parse_u64 text)

-- ---- sizes

-- the letter is at the end
abbrev pub ends_in : List ℕ → ℕ → Bool
ends_in text letter = pointwise nat_eq (drop (length text - 1) text) (letter ∷ [])

-- the bytes before the last one
abbrev pub front_of : List ℕ → List ℕ
front_of text = take (length text - 1) text

-- the digits of a size, and what they count in
abbrev pub parts_of : List ℕ → List ℕ × ℕ
parts_of text =
    if ends_in text 75 then (front_of text, 2 ^ 10)
    else (if ends_in text 77 then (front_of text, 2 ^ 20)
    else (if ends_in text 71 then (front_of text, 2 ^ 30)
    else (text, 1)))

-- so many of a unit, if that is not beyond the greatest
abbrev pub units_of : ℕ → List ℕ × ℕ → Option ℕ
units_of most parts = option_and_then (λ number. up_to most (number * parts.1)) (parse_u64 parts.0)

-- the size that a text gives, if this is the greatest
abbrev pub size_of : List ℕ → ℕ → Option ℕ
size_of text most = if bytes_eq text (codes "none") then Some most else units_of most (parts_of text)
