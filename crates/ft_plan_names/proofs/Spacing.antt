-- Words that are put with spaces between them, and the text of a line.
use Rattle.std.proofs.Common.{◌≡◌, Option, Some, ℕ, ◌-◌, ◌<◌, ◌≤◌, Bool, true, false, cond, List, [], ◌∷◌, ◌++◌, length, take, drop, refl, sym, ap, ◌∙◌, arith, append_assoc, append-nil, length-take}
use Rattle.std.proofs.lemmas.List.Splits.{join_with_byte-slice_split, length-slice_split}
use Rattle.std.specs.Prelude.{◌==◌, codes, Result, Ok, Err, OnOk}
use Rattle.std.specs.Option.{option_map_or}
use Rattle.std.specs.Str.{bytes_eq}
use Rattle.std.specs.Str.Lines.{strip_carriage_return}
use Rattle.ft_words.proofs.Bytes.{from_place}
use Rattle.ft_words.specs.Spelling.{is_silent, words_of}
use Rattle.ft_names.specs.Names.{Naming}
use Rattle.ft_plan_names.specs.Numbers.{Numbering, is_step, name_given, numbered_call, numbered_line, numbered_step, numbered_text, numbered_tried, spaced, words_behind}

-- the words of a text are the text
pub spaced_words : (text : List ℕ) → spaced (words_of text) ≡ text
spaced_words text = join_with_byte-slice_split 32 text

pub words_some : (text : List ℕ) → 0 < length (words_of text)
words_some text = omega (arith, length-slice_split (λ b. b == 32) text)

-- the first word, and the others
pub spaced_first : (word : List ℕ) (words : List (List ℕ)) → spaced (word ∷ words) ≡ word ++ words_behind words
spaced_first word [] = sym (append-nil word)
spaced_first word (next ∷ words) = refl

behind_some : (words : List (List ℕ)) → 0 < length words → words_behind words ≡ 32 ∷ spaced words
behind_some [] some = absurd (omega arith)
behind_some (word ∷ words) some = refl

-- a space and a text
pub behind_text : (text : List ℕ) → words_behind (words_of text) ≡ 32 ∷ text
behind_text text = behind_some (words_of text) (words_some text) ∙ ap (λ t. 32 ∷ t) (spaced_words text)

call_some : (names : Naming) (words : List (List ℕ)) → 0 < length words → 0 < length (numbered_call names words)
call_some names [] some = absurd (omega arith)
call_some names (verb ∷ words) some = omega arith

-- a space and a call
pub behind_call : (names : Naming) (text : List ℕ) → words_behind (numbered_call names (words_of text)) ≡ 32 ∷ spaced (numbered_call names (words_of text))
behind_call names text = behind_some (numbered_call names (words_of text)) (call_some names (words_of text) (words_some text))

-- `try`, and the call after it
pub tried_put : (names : Naming) (first : List ℕ) (words : List (List ℕ)) → bytes_eq first (codes "try") ≡ true → spaced (numbered_tried names (first ∷ words)) ≡ first ++ words_behind (numbered_call names words)
tried_put names first words is =
    ap (λ b. spaced (cond b (first ∷ numbered_call names words) (numbered_call names (first ∷ words)))) is ∙ spaced_first first (numbered_call names words)

pub on_ok : {T E P : Type 0} (r : Result T E) → P → OnOk r P
on_ok (Ok x) p = p
on_ok (Err e) p = tt

-- a step that gives a name is left without it
pub given_step : (names : Naming) (text front name : List ℕ) → name_given (words_of text) ≡ Some (words_of front, name) → spaced (numbered_step names (words_of text)) ≡ front
given_step names text front name given =
    ap (λ (g : Option (List (List ℕ) × List ℕ)). spaced (option_map_or (λ parts. parts.0) g (numbered_tried names (words_of text)))) given ∙ spaced_words front

-- a text that is no step is left as it is
pub text_kept : (steps : Numbering) (text : List ℕ) → is_step (words_of text) ≡ false → numbered_text steps text ≡ text
text_kept steps text none = ap (λ b. cond (is_silent text) text (spaced (cond b (numbered_step steps.1 (words_of text)) (words_of text)))) none ∙ either (is_silent text)
  where
    either : (b : Bool) → cond b text (spaced (words_of text)) ≡ text
    either true = refl
    either false = spaced_words text

-- the text of a line, and what is behind it
pub line_put : (steps : Numbering) (made line text : List ℕ) → text ≡ strip_carriage_return line → (made ++ numbered_text steps text) ++ take (length line - length text) (drop (length text) line) ≡ made ++ numbered_line steps line
line_put steps made line text is =
    ap (λ t. (made ++ numbered_text steps t) ++ take (length line - length t) (drop (length t) line)) is
    ∙ append_assoc made (numbered_text steps (strip_carriage_return line)) (take (length line - length (strip_carriage_return line)) (drop (length (strip_carriage_return line)) line))
    ∙ ap (λ e. made ++ (numbered_text steps (strip_carriage_return line) ++ e)) (from_place line (length (strip_carriage_return line)))

pub strip_shorter : (line : List ℕ) → length (strip_carriage_return line) ≤ length line
strip_shorter line = either _
  where
    either : (b : Bool) → length (cond b (take (length line - 1) line) line) ≤ length line
    either true = omega (arith, length-take (length line - 1) line)
    either false = omega arith
