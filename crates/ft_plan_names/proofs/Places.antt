-- Each line keeps its place.
use Rattle.std.proofs.Common.{◌≡◌, Option, Some, None, ℕ, zero, suc, ◌+◌, ◌<◌, ◌/◌, ◌%◌, Bool, true, false, cond, ◌||◌, List, [], ◌∷◌, ◌++◌, length, take, refl, sym, ap, ◌∙◌, arith}
use Rattle.std.proofs.lemmas.Bool.{eqb-true}
use Rattle.std.proofs.lemmas.List.Folds.{list_any-append}
use Rattle.std.specs.Prelude.{◌==◌, codes, is_some, nat_lt}
use Rattle.std.specs.Fmt.{decimal, digit_glyph, digits, digits_onto}
use Rattle.std.specs.List.{join_with_byte, list_any, onto_first}
use Rattle.std.specs.Option.{option_map_or}
use Rattle.std.specs.Str.{bytes_eq}
use Rattle.std.specs.Str.Lines.{strip_carriage_return}
use Rattle.ft_words.proofs.Bytes.{is_false, neither}
use Rattle.ft_words.specs.Calls.{descriptor_calls, look_up}
use Rattle.ft_words.specs.Spelling.{IsFreeOf, is_silent, words_of}
use Rattle.ft_names.specs.Names.{Naming}
use Rattle.ft_plan_names.specs.Numbers.{Numbering, after_line, all_lines, is_open, is_step, line_end, name_given, no_steps, number_first, number_word, numbered_call, numbered_line, numbered_lines, numbered_plan, numbered_step, numbered_text, numbered_tried, spaced, step_named}
use Rattle.ft_plan_names.proofs.Keeping.{whole}
use Rattle.ft_plan_names.proofs.Lining.{lines_cut, lines_free, lines_some, numbered_some}

-- none of them has a line feed
abbrev AllFree : List (List ℕ) → Type 0
AllFree [] = Unit {0}
AllFree (text ∷ texts) = IsFreeOf 10 text × AllFree texts

either_false : (a b : Bool) → a ≡ false → b ≡ false → (a || b) ≡ false
either_false a b h k = ap (λ c. c || b) h ∙ k

append_free : (text others : List ℕ) → IsFreeOf 10 text → IsFreeOf 10 others → IsFreeOf 10 (text ++ others)
append_free text others h k = list_any-append (λ b. b == 10) text others ∙ either_false (list_any (λ b. b == 10) text) (list_any (λ b. b == 10) others) h k

parts_free : (text others : List ℕ) → IsFreeOf 10 (text ++ others) → IsFreeOf 10 text × IsFreeOf 10 others
parts_free text others h = neither (list_any (λ b. b == 10) text) (list_any (λ b. b == 10) others) (sym (list_any-append (λ b. b == 10) text others) ∙ h)

-- ---- the words of a line

onto_free : (x : ℕ) (texts : List (List ℕ)) → (x == 10) ≡ false → AllFree texts → AllFree (onto_first x texts)
onto_free x [] h free = (either_false (x == 10) false h refl, tt)
onto_free x (text ∷ texts) h free = (either_false (x == 10) (list_any (λ b. b == 10) text) h free.0, free.1)

words_free : (text : List ℕ) → IsFreeOf 10 text → AllFree (words_of text)
words_free [] h = (refl, tt)
words_free (x ∷ xs) h = let parts = neither (x == 10) (list_any (λ b. b == 10) xs) h in either (x == 32) parts.0 (words_free xs parts.1)
  where
    either : (b : Bool) → (x == 10) ≡ false → AllFree (words_of xs) → AllFree (cond b ([] ∷ words_of xs) (onto_first x (words_of xs)))
    either true other free = (refl, free)
    either false other free = onto_free x (words_of xs) other free

spaced_free : (words : List (List ℕ)) → AllFree words → IsFreeOf 10 (spaced words)
spaced_free [] free = refl
spaced_free (word ∷ []) free = free.0
spaced_free (word ∷ next ∷ words) free = append_free word (32 ∷ spaced (next ∷ words)) free.0 (spaced_free (next ∷ words) free.1)

glyph_free : (d : ℕ) → (digit_glyph false d == 10) ≡ false
glyph_free d = either (nat_lt d 10)
  where
    either : (b : Bool) → (cond b (48 + d) (87 + d) == 10) ≡ false
    either true = is_false (48 + d == 10) (λ same. let is = eqb-true (48 + d) 10 same in absurd (omega (arith, is)))
    either false = is_false (87 + d == 10) (λ same. let is = eqb-true (87 + d) 10 same in absurd (omega (arith, is)))

onto_digits_free : (k n : ℕ) (text : List ℕ) → IsFreeOf 10 text → IsFreeOf 10 (digits_onto k 10 false n text)
onto_digits_free zero n text free = free
onto_digits_free (suc k) n text free =
    let next : IsFreeOf 10 (digit_glyph false (n % 10) ∷ text) = either_false (digit_glyph false (n % 10) == 10) (list_any (λ b. b == 10) text) (glyph_free (n % 10)) free in
    either (n / 10 == 0) next (onto_digits_free k (n / 10) (digit_glyph false (n % 10) ∷ text) next)
  where
    either : (b : Bool) → IsFreeOf 10 (digit_glyph false (n % 10) ∷ text) → IsFreeOf 10 (digits_onto k 10 false (n / 10) (digit_glyph false (n % 10) ∷ text)) → IsFreeOf 10 (cond b (digit_glyph false (n % 10) ∷ text) (digits_onto k 10 false (n / 10) (digit_glyph false (n % 10) ∷ text)))
    either true here more = here
    either false here more = more

decimal_free : (n : ℕ) → IsFreeOf 10 (decimal n)
unfolding digits
decimal_free n = onto_digits_free 64 n [] refl

-- ---- words with numbers

word_free : (names : Naming) (word : List ℕ) → IsFreeOf 10 word → IsFreeOf 10 (number_word names word)
word_free names word free = either (step_named names word)
  where
    either : (o : Option ℕ) → IsFreeOf 10 (option_map_or (λ number. 64 ∷ decimal number) o word)
    either None = free
    either (Some number) = decimal_free number

call_free : (names : Naming) (words : List (List ℕ)) → AllFree words → AllFree (numbered_call names words)
call_free names [] free = tt
call_free names (verb ∷ words) free = (free.0, either (is_some (look_up descriptor_calls verb)) words free.1)
  where
    either : (b : Bool) (ws : List (List ℕ)) → AllFree ws → AllFree (cond b (number_first names ws) ws)
    either false ws all = all
    either true [] all = tt
    either true (word ∷ ws) all = (word_free names word all.0, all.1)

tried_free : (names : Naming) (words : List (List ℕ)) → AllFree words → AllFree (numbered_tried names words)
tried_free names [] free = tt
tried_free names (word ∷ words) free = either (bytes_eq word (codes "try"))
  where
    either : (b : Bool) → AllFree (cond b (word ∷ numbered_call names words) (numbered_call names (word ∷ words)))
    either true = (free.0, call_free names words free.1)
    either false = call_free names (word ∷ words) free

take_free : (n : ℕ) (words : List (List ℕ)) → AllFree words → AllFree (take n words)
take_free zero words free = tt
take_free (suc n) [] free = tt
take_free (suc n) (word ∷ words) free = (free.0, take_free n words free.1)

abbrev FrontFree : Option (List (List ℕ) × List ℕ) → Type 0
FrontFree None = Unit {0}
FrontFree (Some parts) = AllFree parts.0

front_free : (words : List (List ℕ)) (n : ℕ) (name : List ℕ) (b c : Bool) → AllFree words → FrontFree (cond b (cond {A = Option (List (List ℕ) × List ℕ)} c (Some (take n words, name)) None) None)
front_free words n name true true free = take_free n words free
front_free words n name true false free = tt
front_free words n name false c free = tt

step_free : (names : Naming) (words : List (List ℕ)) → AllFree words → AllFree (numbered_step names words)
step_free names words free = either (name_given words) (front_free words _ _ (is_open words) _ free)
  where
    either : (o : Option (List (List ℕ) × List ℕ)) → FrontFree o → AllFree (option_map_or (λ parts. parts.0) o (numbered_tried names words))
    either None front = tried_free names words free
    either (Some parts) front = front

-- ---- lines

text_free : (steps : Numbering) (text : List ℕ) → IsFreeOf 10 text → IsFreeOf 10 (numbered_text steps text)
text_free steps text free = either (is_silent text) (is_step (words_of text))
  where
    either : (silent step : Bool) → IsFreeOf 10 (cond silent text (spaced (cond step (numbered_step steps.1 (words_of text)) (words_of text))))
    either true step = free
    either false true = spaced_free (numbered_step steps.1 (words_of text)) (step_free steps.1 (words_of text) (words_free text free))
    either false false = spaced_free (words_of text) (words_free text free)

line_free : (steps : Numbering) (line : List ℕ) → IsFreeOf 10 line → IsFreeOf 10 (numbered_line steps line)
line_free steps line free =
    let parts = parts_free (strip_carriage_return line) (line_end line) (ap (list_any (λ b. b == 10)) (whole line) ∙ free) in
    append_free (numbered_text steps (strip_carriage_return line)) (line_end line) (text_free steps (strip_carriage_return line) parts.0) parts.1

all_free : (steps : Numbering) (lines : List (List ℕ)) → AllFree lines → AllFree (numbered_lines steps lines)
all_free steps [] free = tt
all_free steps (line ∷ lines) free = (line_free steps line free.0, all_free (after_line steps line) lines free.1)

lines_are_free : (text : List ℕ) → AllFree (all_lines text)
lines_are_free [] = (refl, tt)
lines_are_free (x ∷ xs) = either (x == 10) refl (lines_are_free xs)
  where
    either : (b : Bool) → (x == 10) ≡ b → AllFree (all_lines xs) → AllFree (cond b ([] ∷ all_lines xs) (onto_first x (all_lines xs)))
    either true is free = (refl, free)
    either false is free = onto_free x (all_lines xs) is free

lines_joined : (lines : List (List ℕ)) → 0 < length lines → AllFree lines → all_lines (join_with_byte 10 lines) ≡ lines
lines_joined [] some free = absurd (omega arith)
lines_joined (line ∷ []) some free = lines_free line free.0
lines_joined (line ∷ next ∷ lines) some free = lines_cut line (join_with_byte 10 (next ∷ lines)) free.0 ∙ ap (λ ls. line ∷ ls) (lines_joined (next ∷ lines) (omega arith) free.1)

pub lines_keep_places : (text : List ℕ) → all_lines (numbered_plan text) ≡ numbered_lines no_steps (all_lines text)
lines_keep_places text =
    lines_joined (numbered_lines no_steps (all_lines text)) (numbered_some no_steps (all_lines text) (lines_some text)) (all_free no_steps (all_lines text) (lines_are_free text))
