-- The line that lists the limits which a script needs: `# needs`, and flags with their values.
use Rattle.std.specs.Prelude.{◌==◌, ◌&&◌, Bool, ◌%◌, ◌/◌, ◌^◌, ℕ, max, nat_le, List, [], ◌∷◌, ◌++◌, codes, if◌then◌else◌, Option, None, Some, option_and_then, option_map}
use Rattle.std.specs.Option.{unwrap_or}
use Rattle.std.specs.Fmt.{decimal}
use Rattle.std.specs.Str.{bytes_eq}
use Rattle.std.specs.Str.Lines.{strip_carriage_return}
use Rattle.ft_words.specs.Spelling.{lines_of, words_of}
use Rattle.ft_core.specs.declared.limits.Limits.{Limits}
use Rattle.ft_core.specs.Limits.{default_limits, greatest_limits}
use Rattle.ft_needs.specs.Values.{limit_of, size_of}

-- ---- how it is read

-- at least what a flag with this value asks for
abbrev pub with_flag : List ℕ → List ℕ → Limits → Option Limits
with_flag flag value limits =
    if bytes_eq flag (codes "--largest-file") then option_map (λ n. record limits { file_size = max limits.file_size n }) (size_of value greatest_limits.file_size)
    else (if bytes_eq flag (codes "--most-calls") then option_map (λ n. record limits { calls = max limits.calls n }) (limit_of value greatest_limits.calls)
    else (if bytes_eq flag (codes "--most-transactions") then option_map (λ n. record limits { transactions = max limits.transactions n }) (limit_of value greatest_limits.transactions)
    else (if bytes_eq flag (codes "--deepest") then option_map (λ n. record limits { depth = max limits.depth n }) (limit_of value greatest_limits.depth)
    else None)))

-- the same of flags one after another
abbrev pub with_flags : List (List ℕ) → Limits → Option Limits
with_flags [] limits = Some limits
with_flags (flag ∷ []) limits = None
with_flags (flag ∷ value ∷ more) limits = option_and_then (with_flags more) (with_flag flag value limits)

-- the words after `# needs`
abbrev pub flags_of : List (List ℕ) → Option (List (List ℕ))
flags_of [] = None
flags_of (first ∷ []) = None
flags_of (first ∷ second ∷ flags) = if bytes_eq first (codes "#") then (if bytes_eq second (codes "needs") then Some flags else None) else None

-- At least these limits, and those that a script needs by a line. Any other line needs nothing.
abbrev pub raised_by : Limits → List ℕ → Limits
raised_by limits line = unwrap_or (option_and_then (λ flags. with_flags flags limits) (flags_of (words_of (strip_carriage_return line)))) limits

-- the same of the first of lines
abbrev pub raised_by_first : Limits → List (List ℕ) → Limits
raised_by_first limits [] = limits
raised_by_first limits (line ∷ lines) = raised_by limits line

-- at least these limits, and those that a script needs by its first line
abbrev pub raised_for : Limits → List ℕ → Limits
raised_for limits script = raised_by_first limits (lines_of script)

-- ---- how it is written

-- so many of a unit, with its letter, if it is a whole number of them
abbrev pub units_text : ℕ → ℕ → ℕ → List ℕ → List ℕ
units_text size unit letter other = if size % unit == 0 then decimal (size / unit) ++ letter ∷ [] else other

-- a size, in the greatest unit of which it is a whole number
abbrev pub size_text : ℕ → List ℕ
size_text size = units_text size (2 ^ 30) 71 (units_text size (2 ^ 20) 77 (units_text size (2 ^ 10) 75 (decimal size)))

-- a flag with its value, after a space, if the limit is above the one that needs no flag
abbrev pub flag_text : List ℕ → ℕ → ℕ → List ℕ → List ℕ
flag_text flag limit default value = if nat_le limit default then [] else codes " " ++ flag ++ codes " " ++ value

-- the flags for a largest file and for calls
abbrev pub flags_text : Limits → List ℕ
flags_text limits =
    flag_text (codes "--largest-file") limits.file_size default_limits.file_size (size_text limits.file_size)
    ++ flag_text (codes "--most-calls") limits.calls default_limits.calls (decimal limits.calls)

-- the default limits of sizes and calls are enough
abbrev pub needs_none : Limits → Bool
needs_none limits = nat_le limits.file_size default_limits.file_size && nat_le limits.calls default_limits.calls

-- the line of a script that needs these limits of sizes and calls, with its line feed
abbrev pub needs_text : Limits → List ℕ
needs_text limits = if needs_none limits then [] else codes "# needs" ++ flags_text limits ++ 10 ∷ []
