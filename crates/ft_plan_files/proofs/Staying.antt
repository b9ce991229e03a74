-- What stays as it is where a plan is written out.
use Rattle.std.proofs.Common.{◌≡◌, ◌⊎◌, inl, inr, ℕ, Bool, true, false, cond, not, List, [], ◌∷◌, ◌++◌, Option, Some, None, refl, sym, ap, subst, ◌∙◌}
use Rattle.std.proofs.lemmas.Bool.{and_parts, eqb-true, false≢true}
use Rattle.std.proofs.lemmas.List.Splits.{join_with_byte-slice_split}
use Rattle.std.specs.Prelude.{MatchOption, codes, is_some, option_and_then, option_map}
use Rattle.std.specs.Cmp.Lexicographic.{bytes_decides}
use Rattle.std.specs.List.{join_with_byte, list_all, onto_first}
use Rattle.std.specs.Str.{bytes_eq}
use Rattle.std.specs.Str.Lines.{strip_carriage_return}
use Rattle.ft_words.specs.Calls.{both, look_up, only}
use Rattle.ft_words.specs.Spelling.{is_silent, parse_path, words_of}
use Rattle.ft_plan.specs.declared.job.Job.{Job}
use Rattle.ft_plan.specs.declared.job.Step.{Step}
use Rattle.ft_plan.specs.declared.line.PlanLine.{PlanLine}
use Rattle.ft_plan.specs.declared.line.PlanLine.TheVariants as line
use Rattle.ft_plan.specs.Lines.{call_step, is_strict_line, line_of, plain_step, tried}
use Rattle.ft_plan.specs.Plans.{IsPlanOf}
use Rattle.ft_plan_names.specs.Numbers.{all_lines, line_end}
use Rattle.ft_plan_names.proofs.PlanLines.{Passes, plan_passes}
use Rattle.ft_plan_names.proofs.Planned.{call_none, no_step, no_value, not_on}
use Rattle.ft_transfer.specs.declared.transfer.Direction.{Direction}
use Rattle.ft_transfer.specs.declared.transfer.Direction.TheVariants.{Put, Get}
use Rattle.ft_transfer.specs.Disk.{FileTold}
use Rattle.ft_transfer.specs.Words.{direction_words, parse_file}
use Rattle.ft_plan_files.specs.declared.file_line.FileLine.{FileLine}
use Rattle.ft_plan_files.specs.FileLines.{carried, file_line, file_line_of, tried_line}
use Rattle.ft_plan_files.specs.Laws.{has_no_file}
use Rattle.ft_plan_files.specs.WrittenOut.{AreStepsOf, AreWrittenLines, IsWrittenLine, IsWrittenOut}

-- ---- lines that carry no file

module _ (tells : FileTold → Type 0) where
  line_stays : (line text : List ℕ) → has_no_file line ≡ true → IsWrittenLine tells line text → text ≡ line
  line_stays line text none written = either (file_line_of line) none written
    where
      either : (o : Option FileLine) → not (is_some o) ≡ true → MatchOption o (text ≡ line) (λ carrying. (steps : List ℕ) × AreStepsOf tells carrying steps × (text ≡ steps ++ line_end line)) → text ≡ line
      either None h is = is
      either (Some carrying) h is = absurd (false≢true h)

  lines_stay : (lines texts : List (List ℕ)) → list_all has_no_file lines ≡ true → AreWrittenLines tells lines texts → texts ≡ lines
  lines_stay [] [] none written = refl
  lines_stay [] (text ∷ texts) none written = absurd written
  lines_stay (line ∷ lines) [] none written = absurd written
  lines_stay (line ∷ lines) (text ∷ texts) none written =
      let parts = and_parts (has_no_file line) (list_all has_no_file lines) none in
      ap (λ t. t ∷ texts) (line_stays line text parts.0 written.0) ∙ ap (λ ts. line ∷ ts) (lines_stay lines texts parts.1 written.1)

  pub text_stays : (text made : List ℕ) → list_all has_no_file (all_lines text) ≡ true → IsWrittenOut tells text made → made ≡ text
  text_stays text made none written = written.2 ∙ ap (join_with_byte 10) (lines_stay (all_lines text) written.0 none written.1) ∙ join_with_byte-slice_split 10 text

-- ---- a plan has only such lines

carried_none : (tried : Bool) (word : List ℕ) (words : List (List ℕ)) → look_up direction_words word ≡ None → carried tried word words ≡ None
carried_none tried word words none =
    ap
    (λ (o : Option Direction). option_and_then (λ direction. option_map {U = FileLine} (λ names. record { tried = tried; direction = direction; path = names.0; file = names.1 }) (both parse_path (only parse_file) words)) o)
    none

-- a word of no direction, or one of the two
direction_is : (word : List ℕ) → (look_up direction_words word ≡ None) ⊎ ((word ≡ codes "put") ⊎ (word ≡ codes "get"))
direction_is word = either (bytes_eq word (codes "put")) (bytes_eq word (codes "get")) refl refl
  where
    either : (p g : Bool) → bytes_eq word (codes "put") ≡ p → bytes_eq word (codes "get") ≡ g → (cond p (Some Put) (cond g (Some Get) None) ≡ None) ⊎ ((word ≡ codes "put") ⊎ (word ≡ codes "get"))
    either true g is_put is_get = inr (inl ((bytes_decides word (codes "put")).0 is_put))
    either false true is_put is_get = inr (inr ((bytes_decides word (codes "get")).0 is_get))
    either false false is_put is_get = inl refl

none_there : (o : Option FileLine) → o ≡ None → not (is_some o) ≡ true
none_there o none = ap (λ (p : Option FileLine). not (is_some p)) none

-- neither word is a call
no_call : (word : List ℕ) (words : List (List ℕ)) → (word ≡ codes "put") ⊎ (word ≡ codes "get") → call_step word words ≡ None
no_call word words (inl is) = subst (λ w. call_step w words ≡ None) (sym is) (call_none (codes "put") words (not_on (codes "put") words refl) refl)
no_call word words (inr is) = subst (λ w. call_step w words ≡ None) (sym is) (call_none (codes "get") words (not_on (codes "get") words refl) refl)

no_line : (o : Option Step) → o ≡ None → option_map line.Step o ≡ None
no_line o none = ap (option_map line.Step) none

-- nor does a line begin with it
no_plain : (strict : Bool) (word : List ℕ) (words : List (List ℕ)) → (word ≡ codes "put") ⊎ (word ≡ codes "get") → line_of strict (word ∷ words) ≡ None
no_plain true word words (inl is) = subst (λ w. line_of true (w ∷ words) ≡ None) (sym is) (no_line (plain_step (codes "put") words) (no_step (codes "put") words refl refl refl))
no_plain false word words (inl is) = subst (λ w. line_of false (w ∷ words) ≡ None) (sym is) (no_line (plain_step (codes "put") words) (no_step (codes "put") words refl refl refl))
no_plain true word words (inr is) = subst (λ w. line_of true (w ∷ words) ≡ None) (sym is) (no_line (plain_step (codes "get") words) (no_step (codes "get") words refl refl refl))
no_plain false word words (inr is) = subst (λ w. line_of false (w ∷ words) ≡ None) (sym is) (no_line (plain_step (codes "get") words) (no_step (codes "get") words refl refl refl))

-- nor is it tried
no_tried : (strict : Bool) (word : List ℕ) (words : List (List ℕ)) → (word ≡ codes "put") ⊎ (word ≡ codes "get") → line_of strict (codes "try" ∷ word ∷ words) ≡ None
no_tried true word words is = ap (λ (o : Option Step). option_map line.Step (option_map tried o)) (no_call word words is)
no_tried false word words is = no_line (plain_step (codes "try") (word ∷ words)) (no_step (codes "try") (word ∷ words) refl refl refl)

tried_none : (strict : Bool) (words : List (List ℕ)) (said : PlanLine) → line_of strict (codes "try" ∷ words) ≡ Some said → not (is_some (tried_line words)) ≡ true
tried_none strict [] said h = refl
tried_none strict (word ∷ words) said h = either (direction_is word)
  where
    either : (look_up direction_words word ≡ None) ⊎ ((word ≡ codes "put") ⊎ (word ≡ codes "get")) → not (is_some (carried true word words)) ≡ true
    either (inl none) = none_there _ (carried_none true word words none)
    either (inr is) = no_value (line_of strict (codes "try" ∷ word ∷ words)) said (no_tried strict word words is) h

plain_none : (strict : Bool) (word : List ℕ) (words : List (List ℕ)) (said : PlanLine) → line_of strict (word ∷ words) ≡ Some said → not (is_some (carried false word words)) ≡ true
plain_none strict word words said h = either (direction_is word)
  where
    either : (look_up direction_words word ≡ None) ⊎ ((word ≡ codes "put") ⊎ (word ≡ codes "get")) → not (is_some (carried false word words)) ≡ true
    either (inl none) = none_there _ (carried_none false word words none)
    either (inr is) = no_value (line_of strict (word ∷ words)) said (no_plain strict word words is) h

said_none : (strict : Bool) (words : List (List ℕ)) (said : PlanLine) → line_of strict words ≡ Some said → not (is_some (file_line words)) ≡ true
said_none strict [] said h = refl
said_none strict (word ∷ words) said h = either (bytes_eq word (codes "try")) refl
  where
    either : (b : Bool) → bytes_eq word (codes "try") ≡ b → not (is_some (cond b (tried_line words) (carried false word words))) ≡ true
    either true is = tried_none strict words said (subst (λ w. line_of strict (w ∷ words) ≡ Some said) ((bytes_decides word (codes "try")).0 is) h)
    either false is = plain_none strict word words said h

pub silent_none : (text : List ℕ) → is_silent text ≡ true → not (is_some (file_line (words_of text))) ≡ true
silent_none [] h = refl
silent_none (b ∷ bs) h = subst (λ c. not (is_some (file_line (words_of (c ∷ bs)))) ≡ true) (sym (eqb-true b 35 h)) (either (words_of bs))
  where
    either : (words : List (List ℕ)) → not (is_some (file_line (onto_first 35 words))) ≡ true
    either [] = refl
    either (word ∷ words) = refl

-- a word that is alone on its line
alone_none : (word : List ℕ) → not (is_some (file_line (word ∷ []))) ≡ true
alone_none word = either (bytes_eq word (codes "try")) (look_up direction_words word)
  where
    either : (b : Bool) (o : Option Direction) → not (is_some (cond b (tried_line []) (option_and_then (λ direction. option_map {U = FileLine} (λ names. record { tried = false; direction = direction; path = names.0; file = names.1 }) (both parse_path (only parse_file) [])) o))) ≡ true
    either true o = refl
    either false None = refl
    either false (Some direction) = refl

strict_none : (words : List (List ℕ)) → is_strict_line words ≡ true → not (is_some (file_line words)) ≡ true
strict_none [] h = refl
strict_none (word ∷ []) h = alone_none word
strict_none (word ∷ other ∷ words) h = absurd (false≢true h)

lines_of_plans : Passes has_no_file
lines_of_plans = record {
  silent = λ line is. silent_none (strip_carriage_return line) is;
  says = λ strict line said is. said_none strict (words_of (strip_carriage_return line)) said is;
  is_strict = λ line is. strict_none (words_of (strip_carriage_return line)) is;
}

pub plan_stays : (tells : FileTold → Type 0) (bytes made : List ℕ) (jobs : List Job) → IsPlanOf bytes jobs → IsWrittenOut tells bytes made → made ≡ bytes
plan_stays tells bytes made jobs plan written = text_stays tells bytes made (plan_passes has_no_file lines_of_plans refl bytes jobs plan) written
