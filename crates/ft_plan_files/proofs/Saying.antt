-- What a line says, from what lines say.
use Rattle.std.proofs.Common.{◌≡◌, inr, ℕ, suc, Bool, true, List, ◌∷◌, ◌++◌, Option, None, Some, refl, sym, ap, subst, ◌∙◌}
use Rattle.std.proofs.lemmas.Bool.{false≢true}
use Rattle.std.specs.Prelude.{option_and_then, option_map}
use Rattle.std.specs.Option.{option_map_or}
use Rattle.ft_words.specs.Spelling.{words_of_line}
use Rattle.ft_plan.specs.declared.job.Step.{Step}
use Rattle.ft_plan.specs.declared.line.PlanLine.{PlanLine}
use Rattle.ft_plan.specs.declared.line.PlanLine.TheVariants as plan_line
use Rattle.ft_plan.specs.Lines.{line_of}
use Rattle.ft_plan.specs.Plans.{said}
use Rattle.ft_plan_names.specs.Laws.{is_step_line}
use Rattle.ft_plan_names.specs.Numbers.{Numbering, is_step, numbered_line, numbered_lines, spaced}
use Rattle.ft_plan_names.proofs.Counting.{counted}
use Rattle.ft_plan_names.proofs.Planned.{no_value}
use Rattle.ft_plan_files.specs.Places.{Count}
use Rattle.ft_plan_files.proofs.Ends.{IsEnd}
use Rattle.ft_plan_files.proofs.Standing.{StandsAt}
use Rattle.ft_plan_files.proofs.StepCalls.{IsStep, step_line_after, step_line_words}

pub same : {A : Type 0} (x y : A) → Some x ≡ Some y → y ≡ x
same x y h = cc

-- what the first of some lines says, and the others
pub record SaysFirst (strict : Bool) (words lines : List (List ℕ)) (all : List PlanLine) : Type 0 where
  pub first : PlanLine
  pub more : List PlanLine
  pub first_is : line_of strict words ≡ Some first
  pub more_is : said strict lines ≡ Some more
  pub all_is : all ≡ first ∷ more

pub says_first : (strict : Bool) (line : List ℕ) (lines words : List (List ℕ)) (all : List PlanLine) → words_of_line line ≡ Some words → said strict (line ∷ lines) ≡ Some all → SaysFirst strict words lines all
says_first strict line lines words all h k =
    either (line_of strict words) refl (said strict lines) refl
    (sym (ap (λ (o : Option (List (List ℕ))). option_map_or (λ ws. option_and_then (λ f. option_map (λ fs. f ∷ fs) (said strict lines)) (line_of strict ws)) o (said strict lines)) h) ∙ k)
  where
    either : (o : Option PlanLine) → line_of strict words ≡ o → (m : Option (List PlanLine)) → said strict lines ≡ m → option_and_then (λ f. option_map (λ fs. f ∷ fs) m) o ≡ Some all → SaysFirst strict words lines all
    either None is m is_m both = no_value {P = _} None all refl both
    either (Some f) is None is_m both = no_value {P = _} None all refl both
    either (Some f) is (Some fs) is_m both = record { first = f; more = fs; first_is = is; more_is = is_m; all_is = same (f ∷ fs) all both }

-- a silent line says nothing
pub says_nothing : (strict : Bool) (line : List ℕ) (lines : List (List ℕ)) → words_of_line line ≡ None → said strict (line ∷ lines) ≡ said strict lines
says_nothing strict line lines h = ap (λ (o : Option (List (List ℕ))). option_map_or (λ ws. option_and_then (λ f. option_map (λ fs. f ∷ fs) (said strict lines)) (line_of strict ws)) o (said strict lines)) h

-- ---- steps

step_first : (first : PlanLine) → is_step_line first ≡ true → (step : Step) × (first ≡ plan_line.Step step)
step_first (plan_line.Job name parent kind) h = absurd (false≢true h)
step_first (plan_line.After names) h = absurd (false≢true h)
step_first (plan_line.Step step) h = (step, refl)

-- the first line says a step
pub record SaysOne (strict : Bool) (words lines : List (List ℕ)) (all : List PlanLine) : Type 0 where
  pub step : Step
  pub more : List PlanLine
  pub step_is : line_of strict words ≡ Some (plan_line.Step step)
  pub more_is : said strict lines ≡ Some more
  pub all_is : all ≡ plan_line.Step step ∷ more

pub says_one : (strict : Bool) (words lines : List (List ℕ)) (all : List PlanLine) → is_step words ≡ true → SaysFirst strict words lines all → SaysOne strict words lines all
says_one strict words lines all is says =
    let one = step_first says.first (sym (counted strict words says.first says.first_is).0 ∙ is) in
    record { step = one.0; more = says.more; step_is = says.first_is ∙ ap Some one.1; more_is = says.more_is; all_is = says.all_is ∙ ap (λ f. f ∷ says.more) one.1 }

-- one of the steps that are written out
pub says_step : (steps next : Numbering) (words after : List (List ℕ)) (step : IsStep steps next words after) (line end : List ℕ) (is_end : IsEnd end) (is : line ≡ spaced words ++ end) (strict : Bool) (lines : List (List ℕ)) (all : List PlanLine)
    → said strict (numbered_lines steps (line ∷ lines)) ≡ Some all → SaysOne strict after (numbered_lines next lines) all
says_step steps next words after step line end is_end is strict lines all k =
    says_one strict after (numbered_lines next lines) all step.is
    (says_first strict (numbered_line steps line) (numbered_lines next lines) after all (step_line_words steps next words after step line end is_end is)
    (ap (λ (s : Numbering). said strict (numbered_line steps line ∷ numbered_lines s lines)) (sym (step_line_after steps next words after step line end is_end is)) ∙ k))

-- ---- where steps stand

-- what stands among more lines, after so many jobs and steps, stands among all of them, after fewer
abbrev pub StandsStill : Count → List PlanLine → Count → List PlanLine → Type 0
StandsStill new more old all = (job number : ℕ) (step : Step) → StandsAt new more job number step → StandsAt old all job number step

pub one_stands : (count : Count) (first : Step) (more all : List PlanLine) → all ≡ plan_line.Step first ∷ more → StandsStill (count.0, suc count.1) more count all
one_stands count first more all is job number step stands = subst (λ lines. StandsAt count lines job number step) (sym is) (inr stands)
