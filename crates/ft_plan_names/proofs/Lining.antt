-- Lines, one after another.
use Rattle.std.proofs.Common.{◌≡◌, ℕ, ◌<◌, cond, List, [], ◌∷◌, ◌++◌, length, refl, sym, ap, ◌∙◌, arith, append_assoc, length-append}
use Rattle.std.proofs.lemmas.List.Splits.{length-slice_split}
use Rattle.std.specs.List.{join_with_byte, onto_first}
use Rattle.std.specs.Prelude.{◌==◌}
use Rattle.ft_words.proofs.Bytes.{neither}
use Rattle.ft_words.specs.Spelling.{IsFreeOf}
use Rattle.ft_plan_names.specs.Numbers.{Numbering, after_line, all_lines, numbered_line, numbered_lines}

pub lines_some : (text : List ℕ) → 0 < length (all_lines text)
lines_some text = omega (arith, length-slice_split (λ b. b == 10) text)

-- a text without a line feed is one line
pub lines_free : (text : List ℕ) → IsFreeOf 10 text → all_lines text ≡ text ∷ []
lines_free [] h = refl
lines_free (x ∷ xs) h =
    let both = neither (x == 10) _ h in
    ap (λ b. cond b ([] ∷ all_lines xs) (onto_first x (all_lines xs))) both.0 ∙ ap (onto_first x) (lines_free xs both.1)

-- the first line ends at the first line feed
pub lines_cut : (line more : List ℕ) → IsFreeOf 10 line → all_lines (line ++ 10 ∷ more) ≡ line ∷ all_lines more
lines_cut [] more h = refl
lines_cut (x ∷ xs) more h =
    let both = neither (x == 10) _ h in
    ap (λ b. cond b ([] ∷ all_lines (xs ++ 10 ∷ more)) (onto_first x (all_lines (xs ++ 10 ∷ more)))) both.0 ∙ ap (onto_first x) (lines_cut xs more both.1)

-- the text of lines after these steps
abbrev pub text_of : Numbering → List (List ℕ) → List ℕ
text_of steps lines = join_with_byte 10 (numbered_lines steps lines)

joined : (line : List ℕ) (lines : List (List ℕ)) → 0 < length lines → join_with_byte 10 (line ∷ lines) ≡ line ++ 10 ∷ join_with_byte 10 lines
joined line [] some = absurd (omega arith)
joined line (next ∷ lines) some = refl

pub numbered_some : (steps : Numbering) (lines : List (List ℕ)) → 0 < length lines → 0 < length (numbered_lines steps lines)
numbered_some steps [] some = absurd (omega arith)
numbered_some steps (line ∷ lines) some = omega arith

text_next : (steps : Numbering) (line more : List ℕ) → IsFreeOf 10 line → text_of steps (all_lines (line ++ 10 ∷ more)) ≡ numbered_line steps line ++ 10 ∷ text_of (after_line steps line) (all_lines more)
text_next steps line more free =
    ap (text_of steps) (lines_cut line more free)
    ∙ joined (numbered_line steps line) (numbered_lines (after_line steps line) (all_lines more)) (numbered_some (after_line steps line) (all_lines more) (lines_some more))

-- a line was put, and a line feed
pub lines_next : (steps : Numbering) (made rest line more : List ℕ) → IsFreeOf 10 line → rest ≡ line ++ 10 ∷ more → made ++ text_of steps (all_lines rest) ≡ ((made ++ numbered_line steps line) ++ 10 ∷ []) ++ text_of (after_line steps line) (all_lines more)
lines_next steps made rest line more free is =
    ap (λ t. made ++ text_of steps (all_lines t)) is
    ∙ ap (λ t. made ++ t) (text_next steps line more free)
    ∙ sym (append_assoc made (numbered_line steps line) (10 ∷ text_of (after_line steps line) (all_lines more)))
    ∙ sym (append_assoc (made ++ numbered_line steps line) (10 ∷ []) (text_of (after_line steps line) (all_lines more)))

-- the last line
pub lines_last : (steps : Numbering) (rest : List ℕ) → IsFreeOf 10 rest → text_of steps (all_lines rest) ≡ numbered_line steps rest
lines_last steps rest free = ap (text_of steps) (lines_free rest free)

-- what is left is less by the line and the line feed
pub cut_shorter : (rest line more : List ℕ) → rest ≡ line ++ 10 ∷ more → length more < length rest
cut_shorter rest line more is = omega (arith, ap length is, length-append line (10 ∷ more))
