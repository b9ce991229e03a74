-- Each line of a plan passes a test that silent lines, lines that say something, and the line with
-- which a strict plan begins all pass.
use Rattle.std.proofs.Common.{◌≡◌, ◌⊎◌, inl, inr, Option, Some, None, ℕ, Bool, true, false, cond, ◌&&◌, List, [], ◌∷◌, ◌++◌, refl, sym, ap, subst, ◌∙◌}
use Rattle.std.proofs.lemmas.List.Folds.{list_all-append}
use Rattle.std.specs.Prelude.{◌==◌, option_and_then, option_map}
use Rattle.std.specs.List.{list_all, onto_first}
use Rattle.std.specs.Option.{option_map_or}
use Rattle.std.specs.Str.Lines.{strip_carriage_return}
use Rattle.ft_words.specs.Spelling.{is_silent, lines_of, words_of}
use Rattle.ft_plan.specs.declared.job.Job.{Job}
use Rattle.ft_plan.specs.declared.line.PlanLine.{PlanLine}
use Rattle.ft_plan.specs.Lines.{behind_strict, is_strict_line, line_of}
use Rattle.ft_plan.specs.Plans.{IsPlanOf, plan_lines, said}
use Rattle.ft_plan_names.specs.Numbers.{all_lines}
use Rattle.ft_plan_names.proofs.Planned.{no_value}

abbrev words_if : Bool → List ℕ → Option (List (List ℕ))
words_if silent text = cond silent None (Some (words_of text))

-- the lines that pass it
pub record Passes (test : List ℕ → Bool) : Type 0 where
  pub silent : (line : List ℕ) → is_silent (strip_carriage_return line) ≡ true → test line ≡ true
  pub says : (strict : Bool) (line : List ℕ) (said : PlanLine) → line_of strict (words_of (strip_carriage_return line)) ≡ Some said → test line ≡ true
  pub is_strict : (line : List ℕ) → is_strict_line (words_of (strip_carriage_return line)) ≡ true → test line ≡ true

pass_more : (test : List ℕ → Bool) (line : List ℕ) (lines : List (List ℕ)) → test line ≡ true → list_all test lines ≡ true → list_all test (line ∷ lines) ≡ true
pass_more test line lines h k = ap (λ b. b && list_all test lines) h ∙ k

said_pass : (test : List ℕ → Bool) → Passes test → (strict : Bool) (lines : List (List ℕ)) (all : List PlanLine) → said strict lines ≡ Some all → list_all test lines ≡ true
said_pass test passes strict [] all h = refl
said_pass test passes strict (line ∷ lines) all h = either (is_silent text) refl h (said_pass test passes strict lines)
  where
    text : List ℕ
    text = strip_carriage_return line

    onto : PlanLine → Option (List PlanLine)
    onto first = option_map (λ more. first ∷ more) (said strict lines)

    rest : (o : Option (List PlanLine)) → said strict lines ≡ o → (first : PlanLine) → option_map (λ more. first ∷ more) o ≡ Some all → ((more : List PlanLine) → said strict lines ≡ Some more → list_all test lines ≡ true) → list_all test lines ≡ true
    rest None is first k again = no_value {P = _} None all refl k
    rest (Some more) is first k again = again more is

    both : (o : Option PlanLine) → line_of strict (words_of text) ≡ o → option_and_then onto o ≡ Some all → ((more : List PlanLine) → said strict lines ≡ Some more → list_all test lines ≡ true) → list_all test (line ∷ lines) ≡ true
    both None is k again = no_value {P = _} None all refl k
    both (Some first) is k again = pass_more test line lines (passes.says strict line first is) (rest (said strict lines) refl first k again)

    either : (silent : Bool) → is_silent text ≡ silent → option_map_or (λ words. option_and_then onto (line_of strict words)) (words_if silent text) (said strict lines) ≡ Some all → ((more : List PlanLine) → said strict lines ≡ Some more → list_all test lines ≡ true) → list_all test (line ∷ lines) ≡ true
    either true is k again = pass_more test line lines (passes.silent line is) (again all k)
    either false is k again = both (line_of strict (words_of text)) refl k again

strict_pass : (test : List ℕ → Bool) → Passes test → (lines more : List (List ℕ)) → behind_strict lines ≡ Some more → list_all test more ≡ true → list_all test lines ≡ true
strict_pass test passes [] more h pass = no_value {P = _} None more refl h
strict_pass test passes (line ∷ lines) more h pass = either (is_silent text) refl h (λ k. strict_pass test passes lines more k pass)
  where
    text : List ℕ
    text = strip_carriage_return line

    or_none : Option (List (List ℕ)) → List (List ℕ)
    or_none None = []
    or_none (Some ls) = ls

    first : (b : Bool) → is_strict_line (words_of text) ≡ b → cond b (Some lines) None ≡ Some more → list_all test (line ∷ lines) ≡ true
    first true is k = pass_more test line lines (passes.is_strict line is) (subst (λ ls. list_all test ls ≡ true) (sym (ap or_none k)) pass)
    first false is k = no_value {P = _} None more refl k

    either : (silent : Bool) → is_silent text ≡ silent → option_map_or (λ words. cond (is_strict_line words) (Some lines) None) (words_if silent text) (behind_strict lines) ≡ Some more → (behind_strict lines ≡ Some more → list_all test lines ≡ true) → list_all test (line ∷ lines) ≡ true
    either true is k again = pass_more test line lines (passes.silent line is) (again k)
    either false is k again = first (is_strict_line (words_of text)) refl k

all_pass : (test : List ℕ → Bool) → Passes test → (lines : List (List ℕ)) (all : List PlanLine) (o : Option (List (List ℕ))) → behind_strict lines ≡ o → option_map_or (said true) o (said false lines) ≡ Some all → list_all test lines ≡ true
all_pass test passes lines all None is h = said_pass test passes false lines all h
all_pass test passes lines all (Some more) is h = strict_pass test passes lines more is (said_pass test passes true more all h)

-- the last line, after the last line feed, may be empty
all_lines_are : (text : List ℕ) → (all_lines text ≡ lines_of text) ⊎ (all_lines text ≡ lines_of text ++ [] ∷ [])
all_lines_are [] = inr refl
all_lines_are (x ∷ xs) = either (x == 10) (all_lines_are xs)
  where
    onto_more : (lines : List (List ℕ)) → (onto_first x (lines ++ [] ∷ []) ≡ onto_first x lines) ⊎ (onto_first x (lines ++ [] ∷ []) ≡ onto_first x lines ++ [] ∷ [])
    onto_more [] = inl refl
    onto_more (line ∷ lines) = inr refl

    both : (all lines : List (List ℕ)) → all ≡ lines ++ [] ∷ [] → (onto_first x (lines ++ [] ∷ []) ≡ onto_first x lines) ⊎ (onto_first x (lines ++ [] ∷ []) ≡ onto_first x lines ++ [] ∷ []) → (onto_first x all ≡ onto_first x lines) ⊎ (onto_first x all ≡ onto_first x lines ++ [] ∷ [])
    both all lines is (inl h) = inl (ap (onto_first x) is ∙ h)
    both all lines is (inr h) = inr (ap (onto_first x) is ∙ h)

    either : (b : Bool) → (all_lines xs ≡ lines_of xs) ⊎ (all_lines xs ≡ lines_of xs ++ [] ∷ []) → (cond b ([] ∷ all_lines xs) (onto_first x (all_lines xs)) ≡ cond b ([] ∷ lines_of xs) (onto_first x (lines_of xs))) ⊎ (cond b ([] ∷ all_lines xs) (onto_first x (all_lines xs)) ≡ cond b ([] ∷ lines_of xs) (onto_first x (lines_of xs)) ++ [] ∷ [])
    either true (inl h) = inl (ap (λ ls. [] ∷ ls) h)
    either true (inr h) = inr (ap (λ ls. [] ∷ ls) h)
    either false (inl h) = inl (ap (onto_first x) h)
    either false (inr h) = both (all_lines xs) (lines_of xs) h (onto_more (lines_of xs))

-- each line passes, also an empty one after the last line feed
pub plan_passes : (test : List ℕ → Bool) → Passes test → test [] ≡ true → (bytes : List ℕ) (jobs : List Job) → IsPlanOf bytes jobs → list_all test (all_lines bytes) ≡ true
plan_passes test passes empty bytes jobs plan = either (all_lines_are bytes) (all_pass test passes (lines_of bytes) (plan_lines jobs) (behind_strict (lines_of bytes)) refl plan.lines)
  where
    either : (all_lines bytes ≡ lines_of bytes) ⊎ (all_lines bytes ≡ lines_of bytes ++ [] ∷ []) → list_all test (lines_of bytes) ≡ true → list_all test (all_lines bytes) ≡ true
    either (inl h) pass = ap (list_all test) h ∙ pass
    either (inr h) pass = ap (list_all test) h ∙ list_all-append test (lines_of bytes) ([] ∷ []) ∙ ap (λ b. b && (test [] && true)) pass ∙ ap (λ b. b && true) empty
