-- A plan in which names stand for the numbers of steps. (The format is this project's own:
-- docs/SCRIPT.md, Plans.)
use Rattle.std.specs.Prelude.{◌==◌, ◌&&◌, ◌||◌, not, ℕ, suc, Bool, false, List, [], ◌∷◌, ◌++◌, length, drop, codes, if◌then◌else◌, Option, None, Some, is_some, option_map}
use Rattle.std.specs.Fmt.{decimal}
use Rattle.std.specs.List.{join_with_byte, slice_split}
use Rattle.std.specs.Option.{option_map_or}
use Rattle.std.specs.Str.{bytes_eq}
use Rattle.std.specs.Str.Lines.{strip_carriage_return}
use Rattle.ft_words.specs.Spelling.{is_silent, words_of}
use Rattle.ft_words.specs.Calls.{descriptor_calls, look_up}
use Rattle.ft_names.specs.Names.{Naming, is_name, names_of, no_names, with_name}
use Rattle.ft_names.specs.Meanings.{split_name}
use Rattle.ft_plan_names.specs.declared.steps.Steps.{Steps}

-- ---- the words of a step

-- whether the first word is this one
abbrev pub begins : List ℕ → List (List ℕ) → Bool
begins first [] = false
begins first (word ∷ words) = bytes_eq word first

-- whether the words are `open` and others; it may be tried
abbrev pub is_open : List (List ℕ) → Bool
is_open [] = false
is_open (word ∷ words) = if bytes_eq word (codes "try") then begins (codes "open") words else bytes_eq word (codes "open")

-- the words of an `open` before `as` and a name, and the name
abbrev pub name_given : List (List ℕ) → Option (List (List ℕ) × List ℕ)
name_given words = if is_open words then split_name words else None

-- the number of the step whose name comes after `@`, if the word is so
abbrev pub step_named : Naming → List ℕ → Option ℕ
step_named names [] = None
step_named names (b ∷ name) = if (b == 64) && is_name name then names name else None

-- the word, or `@` and that number
abbrev pub number_word : Naming → List ℕ → List ℕ
number_word names word = option_map_or (λ number. 64 ∷ decimal number) (step_named names word) word

-- words of which the first may be so
abbrev pub number_first : Naming → List (List ℕ) → List (List ℕ)
number_first names [] = []
number_first names (word ∷ words) = number_word names word ∷ words

-- a call, whose first argument may be so if it is a descriptor
abbrev pub numbered_call : Naming → List (List ℕ) → List (List ℕ)
numbered_call names [] = []
numbered_call names (verb ∷ words) = verb ∷ (if is_some (look_up descriptor_calls verb) then number_first names words else words)

-- the same of a call that may be tried
abbrev pub numbered_tried : Naming → List (List ℕ) → List (List ℕ)
numbered_tried names [] = []
numbered_tried names (word ∷ words) = if bytes_eq word (codes "try") then word ∷ numbered_call names words else numbered_call names (word ∷ words)

-- the words of a step with a number in place of a name; an `open` is left without the name that it
-- gives
abbrev pub numbered_step : Naming → List (List ℕ) → List (List ℕ)
numbered_step names words = option_map_or (λ parts. parts.0) (name_given words) (numbered_tried names words)

-- ---- the steps of a job

-- how many steps a job has so far, and the number of the step for which each name stands
abbrev pub Numbering : Type 0
Numbering = ℕ × Naming

-- those of a job that has just begun
abbrev pub no_steps : Numbering
no_steps = (0, no_names)

-- a line that says something is a step, unless it begins a job or a strict plan, or says what a job
-- comes after
abbrev pub is_step : List (List ℕ) → Bool
is_step words = not (begins (codes "job") words || (begins (codes "after") words || begins (codes "strict") words))

-- The steps after one more. The name that it gives, if it gives one, stands for its number, and for
-- no other any more.
abbrev pub add_step : Numbering → Option (List ℕ) → Numbering
add_step steps given = (suc steps.0, option_map_or (λ name. with_name name (Some (suc steps.0)) steps.1) given steps.1)

-- the same, by the words of the step
abbrev pub after_step : Numbering → List (List ℕ) → Numbering
after_step steps words = add_step steps (option_map (λ parts. parts.1) (name_given words))

-- The steps after a line that says something. A new job has none, and knows no name.
abbrev pub after_words : Numbering → List (List ℕ) → Numbering
after_words steps words = if is_step words then after_step steps words else (if begins (codes "job") words then no_steps else steps)

-- the steps after a line without a carriage return at its end
abbrev pub after_text : Numbering → List ℕ → Numbering
after_text steps text = if is_silent text then steps else after_words steps (words_of text)

-- the steps after a line
abbrev pub after_line : Numbering → List ℕ → Numbering
after_line steps line = after_text steps (strip_carriage_return line)

-- ---- lines and plans

-- words, with a space between each two
abbrev pub spaced : List (List ℕ) → List ℕ
spaced words = join_with_byte 32 words

-- words, with a space before each
abbrev pub words_behind : List (List ℕ) → List ℕ
words_behind [] = []
words_behind (word ∷ words) = 32 ∷ spaced (word ∷ words)

-- a line that says something
abbrev pub numbered_words : Numbering → List (List ℕ) → List (List ℕ)
numbered_words steps words = if is_step words then numbered_step steps.1 words else words

-- a line without a carriage return at its end
abbrev pub numbered_text : Numbering → List ℕ → List ℕ
numbered_text steps text = if is_silent text then text else spaced (numbered_words steps (words_of text))

-- the carriage return at the end of a line, if there is one
abbrev pub line_end : List ℕ → List ℕ
line_end line = drop (length (strip_carriage_return line)) line

-- a line after these steps
abbrev pub numbered_line : Numbering → List ℕ → List ℕ
numbered_line steps line = numbered_text steps (strip_carriage_return line) ++ line_end line

-- lines, one after another
abbrev pub numbered_lines : Numbering → List (List ℕ) → List (List ℕ)
numbered_lines steps [] = []
numbered_lines steps (line ∷ lines) = numbered_line steps line ∷ numbered_lines (after_line steps line) lines

-- the lines of a text, of which the last, after the last line feed, may be empty
abbrev pub all_lines : List ℕ → List (List ℕ)
all_lines text = slice_split (λ b. b == 10) text

-- a plan with numbers in place of names, line for line
abbrev pub numbered_plan : List ℕ → List ℕ
numbered_plan text = join_with_byte 10 (numbered_lines no_steps (all_lines text))

-- what `Steps` holds
abbrev pub numbering_of : Steps → Numbering
numbering_of steps = (steps.count, names_of steps.names)

-- ---- lines without names

-- whether a word is `@` and a name
abbrev pub is_at_name : List ℕ → Bool
is_at_name [] = false
is_at_name (b ∷ name) = (b == 64) && is_name name

-- whether a call has a name in place of a number
abbrev pub call_has_name : List (List ℕ) → Bool
call_has_name [] = false
call_has_name (verb ∷ []) = false
call_has_name (verb ∷ word ∷ words) = is_some (look_up descriptor_calls verb) && is_at_name word

-- the same of a call that may be tried
abbrev pub tried_has_name : List (List ℕ) → Bool
tried_has_name [] = false
tried_has_name (word ∷ words) = if bytes_eq word (codes "try") then call_has_name words else call_has_name (word ∷ words)

-- words of a step that give no name and have none
abbrev pub is_plain : List (List ℕ) → Bool
is_plain words = not (is_some (name_given words) || tried_has_name words)

-- a line without a carriage return at its end that says nothing, is no step, or is a step of such
-- words
abbrev pub is_plain_text : List ℕ → Bool
is_plain_text text = is_silent text || (not (is_step (words_of text)) || is_plain (words_of text))

-- the same of any line
abbrev pub is_plain_line : List ℕ → Bool
is_plain_line line = is_plain_text (strip_carriage_return line)
