-- The lines before those of a strict plan count nothing.
use Rattle.std.proofs.Common.{◌≡◌, ◌⊎◌, inl, inr, ℕ, ◌≤◌, Bool, true, false, cond, List, [], ◌∷◌, ◌++◌, length, Option, None, Some, refl, sym, ap, subst, ◌∙◌, arith, append-nil}
use Rattle.std.proofs.lemmas.Bool.{false≢true}
use Rattle.std.specs.Prelude.{MatchOption, codes, option_and_then, option_map}
use Rattle.std.specs.Cmp.Lexicographic.{bytes_decides}
use Rattle.std.specs.List.{AllByRecursion, flat_map}
use Rattle.std.specs.Option.{option_map_or}
use Rattle.std.specs.Str.Lines.{strip_carriage_return}
use Rattle.ft_words.specs.Spelling.{IsFreeOf, is_silent, words_of, words_of_line}
use Rattle.ft_plan.specs.declared.line.PlanLine.{PlanLine}
use Rattle.ft_plan.specs.Lines.{behind_strict, is_strict_line, line_of}
use Rattle.ft_plan.specs.Plans.{plan_said, said}
use Rattle.ft_plan_names.specs.Numbers.{Numbering, after_line, all_lines, begins, is_step, line_end, no_steps, numbered_line, numbered_lines}
use Rattle.ft_plan_names.proofs.Planned.{no_value}
use Rattle.ft_transfer.specs.declared.transfer.Direction.{Direction}
use Rattle.ft_transfer.specs.declared.transfer.Direction.TheVariants.{Put, Get}
use Rattle.ft_transfer.specs.Disk.{FileTold}
use Rattle.ft_plan_files.specs.declared.file_line.FileLine.{FileLine}
use Rattle.ft_plan_files.specs.FileLines.{file_line_of}
use Rattle.ft_plan_files.specs.Laws.{AreBytes, gets_of_line}
use Rattle.ft_plan_files.specs.Places.{Count, gets_in, line_count}
use Rattle.ft_plan_files.specs.WrittenOut.{AreStepsOf, AreStepsTo, AreWrittenLines, IsWrittenLine}
use Rattle.ft_plan_files.proofs.Cutting.{AllFree, cut_free}
use Rattle.ft_plan_files.proofs.Ends.{end_of, no_end}
use Rattle.ft_plan_files.proofs.StillLines.{IsStepStill, kinds}
use Rattle.ft_plan_files.proofs.Reading.{after_counted, no_gets, no_places, plain_counted, silent_after, silent_count}
use Rattle.ft_plan_files.proofs.Saying.{same}
use Rattle.ft_plan_files.proofs.StepCalls.{get_opens_is, put_opens_is, step_line_words}
use Rattle.ft_plan_files.proofs.StepWords.{get_lines, get_opens, opened_words, put_lines, put_opens, with_try}

-- ---- the line with which a strict plan begins

strict_counts : (words : List (List ℕ)) → is_strict_line words ≡ true → (is_step words ≡ false) × (begins (codes "job") words ≡ false)
strict_counts [] h = absurd (false≢true h)
strict_counts (word ∷ []) h = subst (λ w. (is_step (w ∷ []) ≡ false) × (begins (codes "job") (w ∷ []) ≡ false)) (sym ((bytes_decides word (codes "strict")).0 h)) (refl, refl)
strict_counts (word ∷ other ∷ words) h = absurd (false≢true h)

-- what comes after the first of some lines
behind_silent : (line : List ℕ) (lines : List (List ℕ)) → words_of_line line ≡ None → behind_strict (line ∷ lines) ≡ behind_strict lines
behind_silent line lines h = ap (λ (o : Option (List (List ℕ))). option_map_or (λ words. cond {A = Option (List (List ℕ))} (is_strict_line words) (Some lines) None) o (behind_strict lines)) h

behind_words : (line : List ℕ) (lines words : List (List ℕ)) → words_of_line line ≡ Some words → behind_strict (line ∷ lines) ≡ cond (is_strict_line words) (Some lines) None
behind_words line lines words h = ap (λ (o : Option (List (List ℕ))). option_map_or (λ ws. cond {A = Option (List (List ℕ))} (is_strict_line ws) (Some lines) None) o (behind_strict lines)) h

-- a line that says something else
no_strict : {P : Type 0} (line : List ℕ) (lines words more : List (List ℕ)) → words_of_line line ≡ Some words → is_strict_line words ≡ false → behind_strict (line ∷ lines) ≡ Some more → P
no_strict {P} line lines words more h other k =
    no_value {P = P} (behind_strict (line ∷ lines)) more (behind_words line lines words h ∙ ap (λ b. cond {A = Option (List (List ℕ))} b (Some lines) None) other) k

-- the line that says it
strict_there : (line : List ℕ) (lines words more : List (List ℕ)) → words_of_line line ≡ Some words → behind_strict (line ∷ lines) ≡ Some more → (is_strict_line words ≡ true) × (more ≡ lines)
strict_there line lines words more h k = either (is_strict_line words) refl
  where
    either : (b : Bool) → is_strict_line words ≡ b → (is_strict_line words ≡ true) × (more ≡ lines)
    either true is = (is, same lines more (sym (behind_words line lines words h ∙ ap (λ b. cond {A = Option (List (List ℕ))} b (Some lines) None) is) ∙ k))
    either false other = no_strict line lines words more h other k

-- ---- the lines of a file after it

module _ (tells : FileTold → Type 0) where
  -- the lines of the file after that line, if these come after it in the plan
  pub record StrictFrom (lines more : List (List ℕ)) : Type 0 where
    pub rest : List (List ℕ)
    pub texts : List (List ℕ)
    pub written : AreWrittenLines tells rest texts
    pub free : AllFree 10 rest
    pub bytes : AllByRecursion AreBytes rest
    pub few : length rest ≤ length lines
    pub more_is : more ≡ numbered_lines no_steps (flat_map all_lines texts)
    pub places : gets_in (0, 0) lines ≡ gets_in (0, 0) rest
    pub gets : flat_map gets_of_line lines ≡ flat_map gets_of_line rest

  -- one line more before it
  one_before : (line : List ℕ) (lines more : List (List ℕ)) → file_line_of line ≡ None → line_count (0, 0) line ≡ (0, 0) → StrictFrom lines more → StrictFrom (line ∷ lines) more
  one_before line lines more none count from =
      let few = from.few in
      record {
        rest = from.rest;
        texts = from.texts;
        written = from.written;
        free = from.free;
        bytes = from.bytes;
        few = omega (arith, few);
        more_is = from.more_is;
        places = ap (λ g. g ++ gets_in (line_count (0, 0) line) lines) (no_places (0, 0) line none) ∙ ap (λ (c : Count). gets_in c lines) count ∙ from.places;
        gets = ap (λ g. g ++ flat_map gets_of_line lines) (no_gets (0, 0) line none) ∙ from.gets;
      }

  -- that line itself
  here : (line : List ℕ) (lines texts more : List (List ℕ)) → AreWrittenLines tells lines texts → AllFree 10 lines → AllByRecursion AreBytes lines → file_line_of line ≡ None → line_count (0, 0) line ≡ (0, 0) → more ≡ numbered_lines no_steps (flat_map all_lines texts) → StrictFrom (line ∷ lines) more
  here line lines texts more written free bytes none count is = record {
    rest = lines;
    texts = texts;
    written = written;
    free = free;
    bytes = bytes;
    few = omega arith;
    more_is = is;
    places = ap (λ g. g ++ gets_in (line_count (0, 0) line) lines) (no_places (0, 0) line none) ∙ ap (λ (c : Count). gets_in c lines) count;
    gets = ap (λ g. g ++ flat_map gets_of_line lines) (no_gets (0, 0) line none);
  }

  plain_before : (line : List ℕ) (lines texts more : List (List ℕ)) → AreWrittenLines tells lines texts → AllFree 10 lines → AllByRecursion AreBytes lines → file_line_of line ≡ None → behind_strict (numbered_lines no_steps (line ∷ flat_map all_lines texts)) ≡ Some more
      → (behind_strict (numbered_lines no_steps (flat_map all_lines texts)) ≡ Some more → StrictFrom lines more) → StrictFrom (line ∷ lines) more
  plain_before line lines texts more written free bytes none k again = either (kinds no_steps line)
    where
      text : List ℕ
      text = strip_carriage_return line

      others : List (List ℕ)
      others = numbered_lines (after_line no_steps line) (flat_map all_lines texts)

      by_silent : (b : Bool) → is_silent text ≡ b → behind_strict (line ∷ others) ≡ Some more → StrictFrom (line ∷ lines) more
      by_silent true silent m =
          one_before line lines more none (silent_count (0, 0) line none silent)
          (again
          (ap (λ (s : Numbering). behind_strict (numbered_lines s (flat_map all_lines texts))) (sym (silent_after no_steps line silent))
          ∙ sym (behind_silent line others (ap (λ b. cond {A = Option (List (List ℕ))} b None (Some (words_of text))) silent))
          ∙ m))
      by_silent false loud m =
          let there = strict_there line others (words_of text) more (ap (λ b. cond {A = Option (List (List ℕ))} b None (Some (words_of text))) loud) m in
          let counts = strict_counts (words_of text) there.0 in
          here line lines texts more written free bytes none (plain_counted (0, 0) line none false false loud counts.1 counts.0)
          (there.1 ∙ ap (λ (s : Numbering). numbered_lines s (flat_map all_lines texts)) (after_counted no_steps line false false loud counts.1 counts.0))

      either : (numbered_line no_steps line ≡ line) ⊎ IsStepStill no_steps line → StrictFrom (line ∷ lines) more
      either (inl is) = by_silent (is_silent text) refl (ap (λ l. behind_strict (l ∷ others)) (sym is) ∙ k)
      either (inr still) =
          let there = strict_there (numbered_line no_steps line) others still.says.words more still.says.said k in
          absurd (false≢true (sym (strict_counts still.says.words there.0).0 ∙ still.says.is))

  strict_opened : (is_tried : Bool) (flags path : List ℕ) → is_strict_line (with_try is_tried (opened_words flags path)) ≡ false
  strict_opened true flags path = refl
  strict_opened false flags path = refl

  -- a line that carries a file does not come before it
  none_carried : (direction : Direction) (carrying : FileLine) (line made : List ℕ) (lines more all : List (List ℕ)) → AreStepsTo tells direction carrying made → behind_strict (numbered_lines no_steps (all_lines (made ++ line_end line) ++ lines)) ≡ Some more → StrictFrom all more
  none_carried Put carrying line made lines more all are k =
      let opens = put_opens carrying.tried carrying.path in
      no_strict (numbered_line no_steps opens) _ (with_try carrying.tried (opened_words (codes "wct") carrying.path)) more
      (step_line_words no_steps _ _ _ (put_opens_is 0 no_steps.1 carrying.tried carrying.path) opens [] no_end (sym (append-nil opens)))
      (strict_opened carrying.tried (codes "wct") carrying.path)
      (sym (ap (λ t. behind_strict (numbered_lines no_steps (all_lines (t ++ line_end line) ++ lines))) are.2 ∙ ap (λ ls. behind_strict (numbered_lines no_steps (ls ++ lines))) (put_lines carrying.tried carrying.path are.0 (line_end line) (end_of line))) ∙ k)
  none_carried Get carrying line made lines more all are k =
      let opens = get_opens carrying.tried carrying.path in
      no_strict (numbered_line no_steps opens) _ (with_try carrying.tried (opened_words (codes "r") carrying.path)) more
      (step_line_words no_steps _ _ _ (get_opens_is 0 no_steps.1 carrying.tried carrying.path) opens [] no_end (sym (append-nil opens)))
      (strict_opened carrying.tried (codes "r") carrying.path)
      (sym (ap (λ t. behind_strict (numbered_lines no_steps (all_lines (t ++ line_end line) ++ lines))) are ∙ ap (λ ls. behind_strict (numbered_lines no_steps (ls ++ lines))) (get_lines carrying.tried carrying.path (line_end line) (end_of line))) ∙ k)

  line_before : (line text : List ℕ) (lines texts more : List (List ℕ)) → IsFreeOf 10 line → IsWrittenLine tells line text → AreWrittenLines tells lines texts → AllFree 10 lines → AllByRecursion AreBytes lines → behind_strict (numbered_lines no_steps (all_lines text ++ flat_map all_lines texts)) ≡ Some more
      → (behind_strict (numbered_lines no_steps (flat_map all_lines texts)) ≡ Some more → StrictFrom lines more) → StrictFrom (line ∷ lines) more
  line_before line text lines texts more free written others_written others_free others_bytes k again = either (file_line_of line) refl written
    where
      either : (o : Option FileLine) → file_line_of line ≡ o → MatchOption o (text ≡ line) (λ carrying. (made : List ℕ) × AreStepsOf tells carrying made × (text ≡ made ++ line_end line)) → StrictFrom (line ∷ lines) more
      either None none is =
          plain_before line lines texts more others_written others_free others_bytes none
          (sym (ap (λ t. behind_strict (numbered_lines no_steps (all_lines t ++ flat_map all_lines texts))) is ∙ ap (λ ls. behind_strict (numbered_lines no_steps (ls ++ flat_map all_lines texts))) (cut_free 10 line free)) ∙ k)
          again
      either (Some carrying) is w =
          none_carried carrying.direction carrying line w.0 (flat_map all_lines texts) more (line ∷ lines) w.1
          (sym (ap (λ t. behind_strict (numbered_lines no_steps (all_lines t ++ flat_map all_lines texts))) w.2) ∙ k)

  pub strict_from : (lines texts more : List (List ℕ)) → AreWrittenLines tells lines texts → AllFree 10 lines → AllByRecursion AreBytes lines → behind_strict (numbered_lines no_steps (flat_map all_lines texts)) ≡ Some more → StrictFrom lines more
  strict_from [] [] more written free bytes k = no_value {P = _} None more refl k
  strict_from [] (text ∷ texts) more written free bytes k = absurd written
  strict_from (line ∷ lines) [] more written free bytes k = absurd written
  strict_from (line ∷ lines) (text ∷ texts) more written free bytes k = line_before line text lines texts more free.0 written.0 written.1 free.1 bytes.1 k (strict_from lines texts more written.1 free.1 bytes.1)

-- ---- an empty line after the others

said_empty : (strict : Bool) (lines : List (List ℕ)) → said strict (lines ++ [] ∷ []) ≡ said strict lines
said_empty strict [] = refl
said_empty strict (line ∷ lines) = ap (λ (o : Option (List PlanLine)). option_map_or (λ words. option_and_then (λ first. option_map (λ more. first ∷ more) o) (line_of strict words)) (words_of_line line) o) (said_empty strict lines)

behind_empty : (lines : List (List ℕ)) → behind_strict (lines ++ [] ∷ []) ≡ option_map (λ ls. ls ++ [] ∷ []) (behind_strict lines)
behind_empty [] = refl
behind_empty (line ∷ lines) = either (words_of_line line) (behind_empty lines)
  where
    first : (b : Bool) → cond {A = Option (List (List ℕ))} b (Some (lines ++ [] ∷ [])) None ≡ option_map (λ ls. ls ++ [] ∷ []) (cond {A = Option (List (List ℕ))} b (Some lines) None)
    first true = refl
    first false = refl

    either : (o : Option (List (List ℕ))) → behind_strict (lines ++ [] ∷ []) ≡ option_map (λ ls. ls ++ [] ∷ []) (behind_strict lines)
        → option_map_or (λ words. cond {A = Option (List (List ℕ))} (is_strict_line words) (Some (lines ++ [] ∷ [])) None) o (behind_strict (lines ++ [] ∷ [])) ≡ option_map (λ ls. ls ++ [] ∷ []) (option_map_or (λ words. cond {A = Option (List (List ℕ))} (is_strict_line words) (Some lines) None) o (behind_strict lines))
    either None again = again
    either (Some words) again = first (is_strict_line words)

pub plan_empty : (lines : List (List ℕ)) → plan_said (lines ++ [] ∷ []) ≡ plan_said lines
plan_empty lines = ap (λ (o : Option (List (List ℕ))). option_map_or (said true) o (said false (lines ++ [] ∷ []))) (behind_empty lines) ∙ either (behind_strict lines)
  where
    either : (o : Option (List (List ℕ))) → option_map_or (said true) (option_map (λ ls. ls ++ [] ∷ []) o) (said false (lines ++ [] ∷ [])) ≡ option_map_or (said true) o (said false lines)
    either None = said_empty false lines
    either (Some more) = said_empty true more
