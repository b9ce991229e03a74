-- The lines of a plan that carry a file of the disk, and the steps for which they stand. (The format
-- is this project's own: docs/SCRIPT.md, Plans.)
use Rattle.std.specs.Prelude.{ℕ, ◌-◌, ◌^◌, Bool, true, false, List, [], ◌∷◌, ◌++◌, length, map, codes, if◌then◌else◌, Option, None, option_and_then, option_map}
use Rattle.std.specs.Fmt.{decimal}
use Rattle.std.specs.List.{join_with_byte}
use Rattle.std.specs.Str.{bytes_eq}
use Rattle.std.specs.Str.Lines.{strip_carriage_return}
use Rattle.ft_words.specs.Calls.{both, look_up, only}
use Rattle.ft_words.specs.Spelling.{parse_path, words_of}
use Rattle.ft_words.specs.Texts.{coded, data_text}
use Rattle.ft_transfer.specs.Words.{direction_words, parse_file}
use Rattle.ft_plan_files.specs.declared.file_line.FileLine.{FileLine}

-- ---- the words of a line

-- `put PATH @FILE` or `get PATH @FILE`, by the first word and the others; it is tried or not
abbrev pub carried : Bool → List ℕ → List (List ℕ) → Option FileLine
carried tried word words =
    option_and_then (λ direction. option_map (λ names. record { tried = tried; direction = direction; path = names.0; file = names.1 }) (both parse_path (only parse_file) words)) (look_up direction_words word)

-- after `try`
abbrev pub tried_line : List (List ℕ) → Option FileLine
tried_line [] = None
tried_line (word ∷ words) = carried true word words

-- the file that the words of a line carry, if they carry one
abbrev pub file_line : List (List ℕ) → Option FileLine
file_line [] = None
file_line (word ∷ words) = if bytes_eq word (codes "try") then tried_line words else carried false word words

-- the same of a line
abbrev pub file_line_of : List ℕ → Option FileLine
file_line_of line = file_line (words_of (strip_carriage_return line))

-- ---- the steps

-- the steps that write these bytes to the file that a `put` has opened, and close it
abbrev pub filling_steps : List ℕ → List (List ℕ)
filling_steps bytes = (codes "write @put" ++ data_text bytes) ∷ codes "close @put" ∷ []

-- The steps of a `put` of these bytes. The file gets their length first, so one that is too large is
-- not cut short.
abbrev pub put_steps : List ℕ → List ℕ → List (List ℕ)
put_steps path bytes = (codes "open wct " ++ coded path ++ codes " as put") ∷ (codes "ftruncate @put " ++ decimal (length bytes)) ∷ filling_steps bytes

-- the steps of a `get`, which reads as much as a read can
abbrev pub get_steps : List ℕ → List (List ℕ)
get_steps path =
    (codes "open r " ++ coded path ++ codes " as get")
    ∷ (codes "read @get " ++ decimal (2 ^ 64 - 1))
    ∷ codes "close @get"
    ∷ []

-- what comes before a step that is tried or not
abbrev pub front : Bool → List ℕ
front tried = if tried then codes "try " else []

-- steps, in a line each
abbrev pub steps_text : Bool → List (List ℕ) → List ℕ
steps_text tried steps = join_with_byte 10 (map (λ step. front tried ++ step) steps)

-- those of a `put`
abbrev pub put_text : Bool → List ℕ → List ℕ → List ℕ
put_text tried path bytes = steps_text tried (put_steps path bytes)

-- those of a `get`
abbrev pub get_text : Bool → List ℕ → List ℕ
get_text tried path = steps_text tried (get_steps path)
