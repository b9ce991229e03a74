-- From which line of its file each line of a plan comes that is written out.
use Rattle.std.proofs.Common.{◌≡◌, ◌⊎◌, inl, inr, ℕ, zero, suc, ◌-◌, ◌<◌, ◌≤◌, Bool, true, false, cond, List, [], ◌∷◌, ◌++◌, length, take, Option, None, Some, refl, sym, ap, ◌∙◌, arith, append-nil, length-append, le-leb, leb-false, leb-true}
use Rattle.std.proofs.lemmas.Bool.{lt-leb}
use Rattle.std.specs.Prelude.{◌==◌, MatchOption, nat_le}
use Rattle.std.specs.List.{flat_map, onto_first}
use Rattle.std.specs.Option.{option_map_or}
use Rattle.ft_words.specs.Spelling.{IsFreeOf, lines_of}
use Rattle.ft_plan_names.specs.Numbers.{all_lines, line_end}
use Rattle.ft_plan_names.proofs.Lining.{lines_some}
use Rattle.ft_transfer.specs.declared.transfer.Direction.{Direction}
use Rattle.ft_transfer.specs.declared.transfer.Direction.TheVariants.{Put, Get}
use Rattle.ft_transfer.specs.Disk.{FileTold}
use Rattle.ft_plan_files.specs.declared.file_line.FileLine.{FileLine}
use Rattle.ft_plan_files.specs.FileLines.{file_line_of}
use Rattle.ft_plan_files.specs.Laws.{lines_in}
use Rattle.ft_plan_files.specs.Places.{line_behind, line_of_file, lines_made, steps_to}
use Rattle.ft_plan_files.specs.WrittenOut.{AreStepsOf, AreStepsTo, AreWrittenLines, IsWrittenLine, IsWrittenOut}
use Rattle.ft_plan_files.proofs.Cutting.{AllFree, cut_free, cut_joined, parts_free}
use Rattle.ft_plan_files.proofs.Ends.{end_of}
use Rattle.ft_plan_files.proofs.StepWords.{get_lines, put_lines}

module _ (tells : FileTold → Type 0) where
  -- as many lines are written out for a line as `line_of_file` counts
  steps_counted : (direction : Direction) (carrying : FileLine) (line steps : List ℕ) → AreStepsTo tells direction carrying steps → length (all_lines (steps ++ line_end line)) ≡ steps_to direction
  steps_counted Put carrying line steps is = ap (λ s. length (all_lines (s ++ line_end line))) is.2 ∙ ap length (put_lines carrying.tried carrying.path is.0 (line_end line) (end_of line))
  steps_counted Get carrying line steps is = ap (λ s. length (all_lines (s ++ line_end line))) is ∙ ap length (get_lines carrying.tried carrying.path (line_end line) (end_of line))

  line_counted : (line text : List ℕ) → IsFreeOf 10 line → IsWrittenLine tells line text → length (all_lines text) ≡ lines_made line
  line_counted line text free written = either (file_line_of line) written
    where
      either : (o : Option FileLine) → MatchOption o (text ≡ line) (λ carrying. (steps : List ℕ) × AreStepsOf tells carrying steps × (text ≡ steps ++ line_end line)) → length (all_lines text) ≡ option_map_or (λ (found : FileLine). steps_to found.direction) o 1
      either None is = ap (λ t. length (all_lines t)) is ∙ ap length (cut_free 10 line free)
      either (Some carrying) is = ap (λ t. length (all_lines t)) is.2 ∙ steps_counted carrying.direction carrying line is.0 is.1

  -- the line behind a line of their texts
  behind : (lines texts : List (List ℕ)) (before number : ℕ) → AreWrittenLines tells lines texts → AllFree 10 lines → lines_in texts before < number → number ≤ lines_in texts (suc before) → line_behind lines number ≡ suc before
  behind [] [] zero number written free above below = absurd (omega (arith, above, below))
  behind [] [] (suc before) number written free above below = absurd (omega (arith, above, below))
  behind [] (text ∷ texts) before number written free above below = absurd written
  behind (line ∷ lines) [] before number written free above below = absurd written
  behind (line ∷ lines) (text ∷ texts) zero number written free above below =
      let count = line_counted line text free.0 written.0 in
      let whole = ap length (append-nil (all_lines text)) in
      let few : nat_le number (lines_made line) ≡ true = le-leb number (lines_made line) (omega (arith, below, whole, count)) in
      ap (λ b. cond b 1 (suc (line_behind lines (number - lines_made line)))) few
  behind (line ∷ lines) (text ∷ texts) (suc before) number written free above below =
      let count = line_counted line text free.0 written.0 in
      let front = length-append (all_lines text) (flat_map all_lines (take before texts)) in
      let whole = length-append (all_lines text) (flat_map all_lines (take (suc before) texts)) in
      let many : nat_le number (lines_made line) ≡ false = lt-leb number (lines_made line) (omega (arith, above, front, count)) in
      ap (λ b. cond b 1 (suc (line_behind lines (number - lines_made line)))) many
      ∙ ap suc (behind lines texts before (number - lines_made line) written.1 free.1 (omega (arith, above, front, count)) (omega (arith, below, whole, count, above, front)))

  texts_some : (lines texts : List (List ℕ)) → 0 < length lines → AreWrittenLines tells lines texts → 0 < length texts
  texts_some [] texts some written = absurd (omega arith)
  texts_some (line ∷ lines) [] some written = absurd written
  texts_some (line ∷ lines) (text ∷ texts) some written = omega arith

  -- the lines that are written out are those of the texts
  pub lines_written : (text made : List ℕ) (written : IsWrittenOut tells text made) → all_lines made ≡ flat_map all_lines written.0
  lines_written text made written = ap all_lines written.2 ∙ cut_joined 10 written.0 (texts_some (all_lines text) written.0 (lines_some text) written.1)

-- ---- an empty line after the last line feed

pub all_lines_are : (text : List ℕ) → (all_lines text ≡ lines_of text) ⊎ (all_lines text ≡ lines_of text ++ [] ∷ [])
all_lines_are [] = inr refl
all_lines_are (x ∷ xs) = either (x == 10) (all_lines_are xs)
  where
    onto_more : (lines : List (List ℕ)) → (onto_first x (lines ++ [] ∷ []) ≡ onto_first x lines) ⊎ (onto_first x (lines ++ [] ∷ []) ≡ onto_first x lines ++ [] ∷ [])
    onto_more [] = inl refl
    onto_more (line ∷ lines) = inr refl

    both : (all lines : List (List ℕ)) → all ≡ lines ++ [] ∷ [] → (onto_first x (lines ++ [] ∷ []) ≡ onto_first x lines) ⊎ (onto_first x (lines ++ [] ∷ []) ≡ onto_first x lines ++ [] ∷ []) → (onto_first x all ≡ onto_first x lines) ⊎ (onto_first x all ≡ onto_first x lines ++ [] ∷ [])
    both all lines is (inl h) = inl (ap (onto_first x) is ∙ h)
    both all lines is (inr h) = inr (ap (onto_first x) is ∙ h)

    either : (b : Bool) → (all_lines xs ≡ lines_of xs) ⊎ (all_lines xs ≡ lines_of xs ++ [] ∷ []) → (cond b ([] ∷ all_lines xs) (onto_first x (all_lines xs)) ≡ cond b ([] ∷ lines_of xs) (onto_first x (lines_of xs))) ⊎ (cond b ([] ∷ all_lines xs) (onto_first x (all_lines xs)) ≡ cond b ([] ∷ lines_of xs) (onto_first x (lines_of xs)) ++ [] ∷ [])
    either true (inl h) = inl (ap (λ ls. [] ∷ ls) h)
    either true (inr h) = inr (ap (λ ls. [] ∷ ls) h)
    either false (inl h) = inl (ap (onto_first x) h)
    either false (inr h) = both (all_lines xs) (lines_of xs) h (onto_more (lines_of xs))

-- changes no number
behind_empty : (lines : List (List ℕ)) (number : ℕ) → 0 < number → line_behind (lines ++ [] ∷ []) number ≡ line_behind lines number
behind_empty [] number some = either (nat_le number 1) refl
  where
    either : (b : Bool) → nat_le number 1 ≡ b → cond b 1 (suc (number - 1)) ≡ number
    either true is = let low = leb-true number 1 is in omega (arith, some, low)
    either false is = omega (arith, some)
behind_empty (line ∷ lines) number some = either (nat_le number (lines_made line)) refl (λ more. behind_empty lines (number - lines_made line) more)
  where
    either : (b : Bool) → nat_le number (lines_made line) ≡ b → (0 < number - lines_made line → line_behind (lines ++ [] ∷ []) (number - lines_made line) ≡ line_behind lines (number - lines_made line))
        → cond b 1 (suc (line_behind (lines ++ [] ∷ []) (number - lines_made line))) ≡ cond b 1 (suc (line_behind lines (number - lines_made line)))
    either true is again = refl
    either false is again = let high = leb-false number (lines_made line) is in ap suc (again (omega (arith, high)))

pub source_is : (tells : FileTold → Type 0) (text made : List ℕ) (written : IsWrittenOut tells text made) (before number : ℕ) → lines_in written.0 before < number → number ≤ lines_in written.0 (suc before) → line_of_file text number ≡ suc before
source_is tells text made written before number above below = either (all_lines_are text)
  where
    found : line_behind (all_lines text) number ≡ suc before
    found = behind tells (all_lines text) written.0 before number written.1 (parts_free 10 text) above below

    either : (all_lines text ≡ lines_of text) ⊎ (all_lines text ≡ lines_of text ++ [] ∷ []) → line_behind (lines_of text) number ≡ suc before
    either (inl is) = ap (λ ls. line_behind ls number) (sym is) ∙ found
    either (inr is) = sym (behind_empty (lines_of text) number (omega (arith, above))) ∙ ap (λ ls. line_behind ls number) (sym is) ∙ found
