-- How words are written: lines, words, numbers, percent coding. The format is this project's own
-- (docs/SCRIPT.md); percent coding is that of the URL Standard, section 1.3.
use Rattle.std.specs.Prelude.{ℕ, ℤ, pos, neg_ℤ, ◌+◌, ◌*◌, ◌^◌, Bool, true, false, ◌&&◌, ◌≡◌, ◌==◌, nat_lt, nat_le, List, [], ◌∷◌, ◌++◌, length, if◌then◌else◌, Option, None, Some, option_and_then}
use Rattle.std.specs.Borrow.{Bor}
use Rattle.std.specs.List.{onto_first, slice_split, list_any, list_all}
use Rattle.std.specs.Char.{is_ascii_digit, digit_value}
use Rattle.std.specs.Str.Lines.{strip_carriage_return}
use Rattle.std.specs.Str.Parse.{digits_value}
use Rattle.percent_encoding.specs.Percent.{percent_decode}
use Rattle.ft_path.specs.Name.{has_nul}

-- the byte is nowhere in the text
abbrev pub IsFreeOf : ℕ → List ℕ → Type 0
IsFreeOf byte text = list_any (λ b. b == byte) text ≡ false

-- the first place of the byte in the text is between these
abbrev pub IsSplitAt : ℕ → List ℕ → List ℕ → List ℕ → Type 0
IsSplitAt byte text front back = IsFreeOf byte front × (text ≡ front ++ byte ∷ back)

-- The lines of a script. Each ends at a line feed, which is no part of it, and which the last may
-- lack. Bytes that end in a line feed have no further, empty line.
abbrev pub lines_of : List ℕ → List (List ℕ)
lines_of [] = []
lines_of (b ∷ bs) = if b == 10 then [] ∷ lines_of bs else onto_first b (lines_of bs)

-- The words of a line are separated by single spaces. Two spaces in a row have an empty word
-- between them.
abbrev pub words_of : List ℕ → List (List ℕ)
words_of text = slice_split (λ b. b == 32) text

-- a line that says nothing: an empty one, and one that begins with `#`
abbrev pub is_silent : List ℕ → Bool
is_silent [] = true
is_silent (b ∷ bs) = b == 35

-- The words of a line, the one carriage return at its end left out. A silent one has none.
abbrev pub words_of_line : List ℕ → Option (List (List ℕ))
words_of_line line = let text = strip_carriage_return line in if is_silent text then None else Some (words_of text)

-- the words that are left, where there may be no text any more: what clauses see of a `Words`
abbrev pub words_left : Option (Bor (List ℕ)) → List (List ℕ)
words_left None = []
words_left (Some text) = words_of text.now

-- the words without this byte at the front of the first, where it stands there
abbrev pub stripped : ℕ → List (List ℕ) → Option (List (List ℕ))
stripped byte [] = None
stripped byte ([] ∷ words) = None
stripped byte ((b ∷ bs) ∷ words) = if b == byte then Some (bs ∷ words) else None

-- the number with this digit after its own digits; none if the byte is no digit, or if the number
-- would not be below 2^64
abbrev pub with_digit : ℕ → ℕ → Option ℕ
with_digit number byte = if is_ascii_digit byte && nat_lt (number * 10 + digit_value byte) (2 ^ 64) then Some (number * 10 + digit_value byte) else None

-- A number is 1 to 20 decimal digits, with a value below 2^64.
abbrev pub is_number : List ℕ → Bool
is_number word = nat_lt 0 (length word) && nat_le (length word) 20 && list_all is_ascii_digit word && nat_lt (digits_value 10 word) (2 ^ 64)

-- its value, where the word is a number
abbrev pub parse_u64 : List ℕ → Option ℕ
parse_u64 word = if is_number word then Some (digits_value 10 word) else None

-- a number below 2^32, as it is
abbrev pub short : ℕ → Option ℕ
short number = if nat_lt number (2 ^ 32) then Some number else None

-- A short number has at most 10 digits, and a value below 2^32.
abbrev pub parse_u32 : List ℕ → Option ℕ
parse_u32 word = if nat_le (length word) 10 then option_and_then short (parse_u64 word) else None

-- a number below 2^63, as an integer
abbrev pub not_negative : ℕ → Option ℤ
not_negative number = if nat_lt number (2 ^ 63) then Some (pos number) else None

-- a number up to 2^63, with a minus before it
abbrev pub negative : ℕ → Option ℤ
negative number = if nat_le number (2 ^ 63) then Some (neg_ℤ (pos number)) else None

-- An integer is a number below 2^63, or `-` and a number up to 2^63.
abbrev pub parse_i64 : List ℕ → Option ℤ
parse_i64 [] = None
parse_i64 (b ∷ bs) = if b == 45 then option_and_then negative (parse_u64 bs) else option_and_then not_negative (parse_u64 (b ∷ bs))

-- Paths and data are percent-coded: `%` and two hexadecimal digits stand for a byte, any other
-- byte for itself. A path has no null byte.
abbrev pub parse_path : List ℕ → Option (List ℕ)
parse_path word = if has_nul (percent_decode word) then None else Some (percent_decode word)

-- data may have any byte
abbrev pub parse_data : List ℕ → Option (List ℕ)
parse_data word = Some (percent_decode word)
