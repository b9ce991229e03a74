-- Lines without names stay as they are.
use Rattle.std.proofs.Common.{◌≡◌, Option, Some, None, ℕ, ◌-◌, ◌≤◌, Bool, true, false, cond, ◌&&◌, ◌||◌, not, List, [], ◌∷◌, ◌++◌, length, take, drop, refl, ap, ◌∙◌, arith, append-nil, length-take-le, take-append-drop, drop_of_length-le}
use Rattle.std.proofs.lemmas.Bool.{and_parts, false≢true}
use Rattle.std.proofs.lemmas.List.Splits.{join_with_byte-slice_split}
use Rattle.std.specs.Prelude.{codes, is_some}
use Rattle.std.specs.Fmt.{decimal}
use Rattle.std.specs.List.{join_with_byte, list_all}
use Rattle.std.specs.Option.{option_map_or}
use Rattle.std.specs.Str.{bytes_eq}
use Rattle.std.specs.Str.Lines.{strip_carriage_return}
use Rattle.ft_words.specs.Calls.{descriptor_calls, look_up}
use Rattle.ft_words.specs.Spelling.{is_silent, words_of}
use Rattle.ft_names.specs.Names.{Naming}
use Rattle.ft_plan_names.specs.Numbers.{Numbering, after_line, all_lines, call_has_name, is_at_name, is_plain, is_plain_line, is_plain_text, is_step, line_end, name_given, no_steps, number_word, numbered_call, numbered_line, numbered_lines, numbered_plan, numbered_step, numbered_text, numbered_tried, spaced, tried_has_name}
use Rattle.ft_plan_names.proofs.Spacing.{spaced_words}

word_stays : (names : Naming) (word : List ℕ) → is_at_name word ≡ false → number_word names word ≡ word
word_stays names [] none = refl
word_stays names (b ∷ name) none = ap (λ c. option_map_or (λ number. 64 ∷ decimal number) (cond c (names name) None) (b ∷ name)) none

call_stays : (names : Naming) (words : List (List ℕ)) → call_has_name words ≡ false → numbered_call names words ≡ words
call_stays names [] none = refl
call_stays names (verb ∷ []) none = either (is_some (look_up descriptor_calls verb))
  where
    either : (b : Bool) → verb ∷ cond b [] [] ≡ verb ∷ []
    either true = refl
    either false = refl
call_stays names (verb ∷ word ∷ words) none = either (is_some (look_up descriptor_calls verb)) none
  where
    either : (b : Bool) → (b && is_at_name word) ≡ false → verb ∷ cond b (number_word names word ∷ words) (word ∷ words) ≡ verb ∷ word ∷ words
    either true no_name = ap (λ w. verb ∷ w ∷ words) (word_stays names word no_name)
    either false no_name = refl

tried_stays : (names : Naming) (words : List (List ℕ)) → tried_has_name words ≡ false → numbered_tried names words ≡ words
tried_stays names [] none = refl
tried_stays names (word ∷ words) none = either (bytes_eq word (codes "try")) none
  where
    either : (b : Bool) → cond b (call_has_name words) (call_has_name (word ∷ words)) ≡ false → cond b (word ∷ numbered_call names words) (numbered_call names (word ∷ words)) ≡ word ∷ words
    either true no_name = ap (λ ws. word ∷ ws) (call_stays names words no_name)
    either false no_name = call_stays names (word ∷ words) no_name

step_stays : (names : Naming) (words : List (List ℕ)) → is_plain words ≡ true → numbered_step names words ≡ words
step_stays names words plain = either (name_given words) (tried_has_name words) plain (tried_stays names words)
  where
    either : (given : Option (List (List ℕ) × List ℕ)) (b : Bool) → not (is_some given || b) ≡ true → (b ≡ false → numbered_tried names words ≡ words) → option_map_or (λ parts. parts.0) given (numbered_tried names words) ≡ words
    either (Some parts) b h stays = absurd (false≢true h)
    either None true h stays = absurd (false≢true h)
    either None false h stays = stays refl

text_stays : (steps : Numbering) (text : List ℕ) → is_plain_text text ≡ true → numbered_text steps text ≡ text
text_stays steps text plain = either (is_silent text) (is_step (words_of text)) (is_plain (words_of text)) plain (step_stays steps.1 (words_of text))
  where
    either : (silent step b : Bool) → (silent || (not step || b)) ≡ true → (b ≡ true → numbered_step steps.1 (words_of text) ≡ words_of text) → cond silent text (spaced (cond step (numbered_step steps.1 (words_of text)) (words_of text))) ≡ text
    either true step b h stays = refl
    either false false b h stays = spaced_words text
    either false true true h stays = ap spaced (stays refl) ∙ spaced_words text
    either false true false h stays = absurd (false≢true h)

-- a line is its text and what is after it
pub whole : (line : List ℕ) → strip_carriage_return line ++ line_end line ≡ line
whole line = either _
  where
    cut : (k : ℕ) → k ≤ length line → take k line ++ drop (length (take k line)) line ≡ line
    cut k fits = ap (λ n. take k line ++ drop n line) (length-take-le k line fits) ∙ take-append-drop k line

    either : (b : Bool) → cond b (take (length line - 1) line) line ++ drop (length (cond b (take (length line - 1) line) line)) line ≡ line
    either true = cut (length line - 1) (omega arith)
    either false = ap (λ t. line ++ t) (drop_of_length-le line (omega arith)) ∙ append-nil line

pub line_stays : (steps : Numbering) (line : List ℕ) → is_plain_line line ≡ true → numbered_line steps line ≡ line
line_stays steps line plain = ap (λ t. t ++ line_end line) (text_stays steps (strip_carriage_return line) plain) ∙ whole line

lines_stay : (steps : Numbering) (lines : List (List ℕ)) → list_all is_plain_line lines ≡ true → numbered_lines steps lines ≡ lines
lines_stay steps [] plain = refl
lines_stay steps (line ∷ lines) plain =
    let both = and_parts (is_plain_line line) (list_all is_plain_line lines) plain in
    ap (λ l. l ∷ numbered_lines (after_line steps line) lines) (line_stays steps line both.0) ∙ ap (λ ls. line ∷ ls) (lines_stay (after_line steps line) lines both.1)

pub text_is_plan : (text : List ℕ) → list_all is_plain_line (all_lines text) ≡ true → numbered_plan text ≡ text
text_is_plan text plain = ap (join_with_byte 10) (lines_stay no_steps (all_lines text) plain) ∙ join_with_byte-slice_split 10 text
