-- How modes, owners and times are written, where they are read and where they are printed
-- (docs/SCRIPT.md).
use Rattle.std.specs.Prelude.{ℕ, ◌+◌, ◌*◌, ◌-◌, ◌^◌, Bool, false, ◌&&◌, ◌==◌, nat_lt, nat_le, List, ◌++◌, length, replicate, codes, if◌then◌else◌, Option, None, Some, option_and_then, option_map}
use Rattle.std.specs.Char.{digit_value}
use Rattle.std.specs.Fmt.{decimal, signed_decimal, digits}
use Rattle.std.specs.Int.{is_in_range}
use Rattle.std.specs.List.{list_all}
use Rattle.std.specs.Str.{bytes_eq}
use Rattle.std.specs.Str.Parse.{digits_value}
use Rattle.ft_cells.specs.declared.attributes.Attributes.{Attributes}
use Rattle.ft_cells.specs.declared.attributes.Timestamp.{Timestamp}
use Rattle.ft_words.specs.Spelling.{parse_u32}

-- ---- as they are read

-- `0` to `7`
abbrev pub is_octal_digit : ℕ → Bool
is_octal_digit b = is_in_range 48 55 b

-- the mode with this digit after its own digits; none if the byte is no octal digit, or if the mode
-- would be above 07777
abbrev pub with_octal_digit : ℕ → ℕ → Option ℕ
with_octal_digit mode byte = if is_octal_digit byte && nat_lt (mode * 8 + digit_value byte) (8 ^ 4) then Some (mode * 8 + digit_value byte) else None

-- A mode is 1 to 5 octal digits, with a value of at most 07777.
abbrev pub is_mode : List ℕ → Bool
is_mode word = nat_lt 0 (length word) && nat_le (length word) 5 && list_all is_octal_digit word && nat_lt (digits_value 8 word) (8 ^ 4)

-- its value, where the word is a mode
abbrev pub parse_mode : List ℕ → Option ℕ
parse_mode word = if is_mode word then Some (digits_value 8 word) else None

-- the number of an owner or a group. (uid_t)-1 is none: POSIX has it stand for the one that is there
-- (System Interfaces, chown)
abbrev pub not_all_ones : ℕ → Option ℕ
not_all_ones number = if number == 2 ^ 32 - 1 then None else Some number

-- An owner or a group is such a number, or `-` for the one that is there.
abbrev pub parse_owner : List ℕ → Option (Option ℕ)
parse_owner word = if bytes_eq word (codes "-") then Some None else option_map Some (option_and_then not_all_ones (parse_u32 word))

-- ---- as they are printed

-- in octal, with zeros in front up to four digits
abbrev pub mode_text : ℕ → List ℕ
mode_text mode = replicate (4 - length (digits 8 false mode)) 48 ++ digits 8 false mode

-- the number, or `-` for the one that is there
abbrev pub owner_text : Option ℕ → List ℕ
owner_text None = codes "-"
owner_text (Some owner) = decimal owner

-- a mode, its owner and its group
abbrev pub attributes_text : Attributes → List ℕ
attributes_text a = mode_text a.mode ++ codes " " ++ decimal a.owner ++ codes " " ++ decimal a.group

-- seconds, and nanoseconds beside them
abbrev pub time_text : Timestamp → List ℕ
time_text time = signed_decimal time.seconds ++ codes " " ++ decimal time.nanoseconds
