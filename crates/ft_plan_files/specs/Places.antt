-- The places of the `get`s of a plan, and the lines of its file from which the lines of the plan come
-- that is written out. (The format is this project's own: docs/SCRIPT.md, Plans.)
use Rattle.std.specs.Prelude.{ℕ, suc, ◌+◌, ◌-◌, nat_le, List, [], ◌∷◌, ◌++◌, codes, if◌then◌else◌}
use Rattle.std.specs.Option.{option_map_or}
use Rattle.std.specs.Str.Lines.{strip_carriage_return}
use Rattle.ft_words.specs.Spelling.{is_silent, lines_of, words_of}
use Rattle.ft_transfer.specs.declared.transfer.Direction.{Direction}
use Rattle.ft_transfer.specs.declared.transfer.Direction.TheVariants.{Put, Get}
use Rattle.ft_plan_names.specs.Numbers.{begins, is_step}
use Rattle.ft_plan_files.specs.declared.file_line.FileLine.{FileLine}
use Rattle.ft_plan_files.specs.declared.places.GetPlace.{GetPlace}
use Rattle.ft_plan_files.specs.FileLines.{file_line, file_line_of}

-- for how many steps a line in this direction stands
abbrev pub steps_to : Direction → ℕ
steps_to Put = 4
steps_to Get = 3

-- ---- places

-- how many jobs have begun, and how many steps the last of them has so far
abbrev pub Count : Type 0
Count = ℕ × ℕ

-- after words that carry no file: a job begins, or one step more is there if they are one
abbrev pub plain_count : Count → List (List ℕ) → Count
plain_count count words = if begins (codes "job") words then (suc count.0, 0) else (count.0, count.1 + (if is_step words then 1 else 0))

-- after words that say something
abbrev pub words_count : Count → List (List ℕ) → Count
words_count count words = option_map_or (λ (line : FileLine). (count.0, count.1 + steps_to line.direction)) (file_line words) (plain_count count words)

-- after a line without a carriage return at its end
abbrev pub text_count : Count → List ℕ → Count
text_count count text = if is_silent text then count else words_count count (words_of text)

-- after a line
abbrev pub line_count : Count → List ℕ → Count
line_count count line = text_count count (strip_carriage_return line)

-- The read of a `get`, the second of its steps, and the file that is to have what it is answered. The
-- job is told by how many jobs are before it.
abbrev pub get_to : Direction → Count → List ℕ → List GetPlace
get_to Put count file = []
get_to Get count file = record { job = count.0 - 1; step = count.1 + 2; file = file } ∷ []

-- that of a line, if it is a `get`
abbrev pub get_in : Count → List ℕ → List GetPlace
get_in count line = option_map_or (λ (line : FileLine). get_to line.direction count line.file) (file_line_of line) []

-- those of lines, one after another
abbrev pub gets_in : Count → List (List ℕ) → List GetPlace
gets_in count [] = []
gets_in count (line ∷ lines) = get_in count line ++ gets_in (line_count count line) lines

-- those of a plan
abbrev pub places_of : List ℕ → List GetPlace
places_of text = gets_in (0, 0) (lines_of text)

-- ---- lines

-- how many lines are written out for a line
abbrev pub lines_made : List ℕ → ℕ
lines_made line = option_map_or (λ (line : FileLine). steps_to line.direction) (file_line_of line) 1

-- The number of the line for which the line of this number was written out. The first has the
-- number 1.
abbrev pub line_behind : List (List ℕ) → ℕ → ℕ
line_behind [] number = number
line_behind (line ∷ lines) number = if nat_le number (lines_made line) then 1 else suc (line_behind lines (number - lines_made line))

-- the same of the lines of a plan
abbrev pub line_of_file : List ℕ → ℕ → ℕ
line_of_file text number = line_behind (lines_of text) number
