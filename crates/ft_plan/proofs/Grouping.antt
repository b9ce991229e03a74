-- The lines of jobs say which jobs they are.
use Rattle.std.proofs.Common.{Bool, true, false, ◌&&◌, ◌≡◌, List, [], ◌∷◌, ◌++◌, Option, Some, None, refl, sym, ap, ◌∙◌, append_assoc, append-nil}
use Rattle.std.proofs.lemmas.Bool.{and_parts, false≢true}
use Rattle.std.specs.Prelude.{ℕ, map, option_map, option_and_then}
use Rattle.std.specs.Option.{option_map_or}
use Rattle.ft_words.specs.Spelling.{lines_of, words_of_line}
use Rattle.ft_plan.specs.declared.job.Job.{Job}
use Rattle.ft_plan.specs.declared.job.JobKind.{JobKind}
use Rattle.ft_plan.specs.declared.job.Step.{Step}
use Rattle.ft_plan.specs.declared.line.PlanLine.{PlanLine}
use Rattle.ft_plan.specs.declared.line.PlanLine.TheVariants as line
use Rattle.ft_plan.specs.Lines.{line_of}
use Rattle.ft_plan.specs.Plans.{after_lines, said, plan_said, plan_lines, is_plan, IsPlanOf}
use Rattle.ft_plan.specs.Parsing.Place.{Ahead, Opened, Within}
use Rattle.ft_plan.specs.Parsing.{Place, behind_all, fits, place_after, place_behind, IsStray}

-- ---- from lines back to jobs

-- what stands before the first job, what it comes after and steps, and the jobs
record Grouped : Type 0 where
  after : List (List ℕ)
  steps : List Step
  jobs : List Job

abbrev none_yet : List Job → Grouped
none_yet jobs = record { after = []; steps = []; jobs = jobs }

abbrev with_step : Step → Grouped → Grouped
with_step step g = record { after = g.after; steps = step ∷ g.steps; jobs = g.jobs }

abbrev with_after : List (List ℕ) → Grouped → Grouped
with_after names g = record { after = names; steps = g.steps; jobs = g.jobs }

abbrev with_job : List ℕ → Option (List ℕ) → JobKind → Grouped → Grouped
with_job name parent kind g = none_yet (record { name = name; parent = parent; kind = kind; after = g.after; steps = g.steps } ∷ g.jobs)

abbrev grouped : List PlanLine → Grouped
grouped [] = none_yet []
grouped (line.Step step ∷ lines) = with_step step (grouped lines)
grouped (line.After names ∷ lines) = with_after names (grouped lines)
grouped (line.Job name parent kind ∷ lines) = with_job name parent kind (grouped lines)

abbrev with_steps : List Step → Grouped → Grouped
with_steps steps g = record { after = g.after; steps = steps ++ g.steps; jobs = g.jobs }

grouped_steps : (steps : List Step) (lines : List PlanLine) → grouped (map line.Step steps ++ lines) ≡ with_steps steps (grouped lines)
grouped_steps [] lines = refl
grouped_steps (step ∷ steps) lines = ap (with_step step) (grouped_steps steps lines)

abbrev behind_steps : List Job → List Step → Grouped
behind_steps jobs steps = record { after = []; steps = steps; jobs = jobs }

-- the steps of a job, before the lines of others
inner_steps : (steps : List Step) (jobs : List Job) (lines : List PlanLine) → grouped lines ≡ none_yet jobs → grouped (map line.Step steps ++ lines) ≡ behind_steps jobs steps
inner_steps steps jobs lines h = grouped_steps steps lines ∙ ap (with_steps steps) h ∙ ap (behind_steps jobs) (append-nil steps)

-- and what it comes after
inner : (after : List (List ℕ)) (steps : List Step) (jobs : List Job) (lines : List PlanLine) → grouped lines ≡ none_yet jobs
    → grouped ((after_lines after ++ map line.Step steps) ++ lines) ≡ with_after after (behind_steps jobs steps)
inner [] steps jobs lines h = inner_steps steps jobs lines h
inner (name ∷ names) steps jobs lines h = ap (with_after (name ∷ names)) (inner_steps steps jobs lines h)

grouped_plan : (jobs : List Job) → grouped (plan_lines jobs) ≡ none_yet jobs
grouped_plan [] = refl
grouped_plan (job ∷ jobs) = ap (with_job job.name job.parent job.kind) (inner job.after job.steps jobs (plan_lines jobs) (grouped_plan jobs))

pub same_jobs : (jobs others : List Job) → plan_lines jobs ≡ plan_lines others → jobs ≡ others
same_jobs jobs others h = ap (λ (g : Grouped). g.jobs) (sym (grouped_plan jobs) ∙ ap grouped h ∙ grouped_plan others)

abbrev or_none : Option (List PlanLine) → List PlanLine
or_none None = []
or_none (Some lines) = lines

-- the jobs of a plan are those that its lines say
pub only_plan : (bytes : List ℕ) (jobs others : List Job) → plan_said (lines_of bytes) ≡ Some (plan_lines jobs) → is_plan jobs ≡ false → IsPlanOf bytes others → ⊥
only_plan bytes jobs others h broken plan = false≢true (sym broken ∙ ap is_plan (same_jobs jobs others (ap or_none (sym h ∙ plan.lines))) ∙ plan.rules)

-- ---- line by line

-- what a line says, and what the lines behind it say
abbrev onto : Option PlanLine → Option (List PlanLine) → Option (List PlanLine)
onto first more = option_and_then (λ f. option_map (λ ls. f ∷ ls) more) first

abbrev by_words : Bool → Option (List (List ℕ)) → Option (List PlanLine) → Option (List PlanLine)
by_words strict words more = option_map_or (λ ws. onto (line_of strict ws) more) words more

pub said_silent : (strict : Bool) (bytes : List ℕ) (lines : List (List ℕ)) → words_of_line bytes ≡ None → said strict (bytes ∷ lines) ≡ said strict lines
said_silent strict bytes lines h = ap (λ words. by_words strict words (said strict lines)) h

said_words : (strict : Bool) (bytes : List ℕ) (lines words : List (List ℕ)) → words_of_line bytes ≡ Some words → said strict (bytes ∷ lines) ≡ onto (line_of strict words) (said strict lines)
said_words strict bytes lines words h = ap (λ ws. by_words strict ws (said strict lines)) h

moved : (so_far : List PlanLine) (first : PlanLine) (more : Option (List PlanLine)) → behind_all so_far (onto (Some first) more) ≡ behind_all (so_far ++ first ∷ []) more
moved so_far first None = refl
moved so_far first (Some ls) = ap Some (sym (append_assoc so_far (first ∷ []) ls))

pub said_more : (strict : Bool) (so_far : List PlanLine) (bytes : List ℕ) (lines words : List (List ℕ)) (first : PlanLine) → words_of_line bytes ≡ Some words → line_of strict words ≡ Some first → behind_all so_far (said strict (bytes ∷ lines)) ≡ behind_all (so_far ++ first ∷ []) (said strict lines)
said_more strict so_far bytes lines words first h k =
    ap (behind_all so_far) (said_words strict bytes lines words h ∙ ap (λ f. onto f (said strict lines)) k) ∙ moved so_far first (said strict lines)

said_bad : (strict : Bool) (so_far : List PlanLine) (bytes : List ℕ) (lines words : List (List ℕ)) → words_of_line bytes ≡ Some words → line_of strict words ≡ None → behind_all so_far (said strict (bytes ∷ lines)) ≡ None
said_bad strict so_far bytes lines words h k = ap (behind_all so_far) (said_words strict bytes lines words h ∙ ap (λ f. onto f (said strict lines)) k)

-- ---- lines that stand where they may

-- each line may stand where it does
abbrev all_fit : Place → List PlanLine → Bool
all_fit place [] = true
all_fit place (first ∷ lines) = fits place first && all_fit (place_behind first) lines

fit_within : (steps : List Step) (lines : List PlanLine) → all_fit Within lines ≡ true → all_fit Within (map line.Step steps ++ lines) ≡ true
fit_within [] lines h = h
fit_within (step ∷ steps) lines h = fit_within steps lines h

fit_opened : (after : List (List ℕ)) (steps : List Step) (lines : List PlanLine) → all_fit Opened lines ≡ true → all_fit Within lines ≡ true
    → all_fit Opened ((after_lines after ++ map line.Step steps) ++ lines) ≡ true
fit_opened [] [] lines opened within = opened
fit_opened [] (step ∷ steps) lines opened within = fit_within steps lines within
fit_opened (name ∷ names) steps lines opened within = fit_within steps lines within

fit_plan : (place : Place) (jobs : List Job) → all_fit place (plan_lines jobs) ≡ true
fit_plan place [] = refl
fit_plan place (job ∷ jobs) = fit_opened job.after job.steps (plan_lines jobs) (fit_plan Opened jobs) (fit_plan Within jobs)

fits_there : (place : Place) (so_far : List PlanLine) (first : PlanLine) (more : List PlanLine) → all_fit place (so_far ++ first ∷ more) ≡ true → fits (place_after place so_far) first ≡ true
fits_there place [] first more h = (and_parts (fits place first) (all_fit (place_behind first) more) h).0
fits_there place (x ∷ so_far) first more h = fits_there (place_behind x) so_far first more (and_parts (fits place x) (all_fit (place_behind x) (so_far ++ first ∷ more)) h).1

no_plan : (so_far : List PlanLine) (first : PlanLine) (more : Option (List PlanLine)) (jobs : List Job) → IsStray so_far first → behind_all so_far (onto (Some first) more) ≡ Some (plan_lines jobs) → ⊥
no_plan so_far first None jobs s all = absurd (cc)
no_plan so_far first (Some lines) jobs s all =
    false≢true (sym s ∙ fits_there Ahead so_far first lines (ap (all_fit Ahead) (ap or_none all) ∙ fit_plan Ahead jobs))

pub stray : (strict : Bool) (so_far : List PlanLine) (bytes : List ℕ) (lines words : List (List ℕ)) (first : PlanLine) (jobs : List Job) → words_of_line bytes ≡ Some words → line_of strict words ≡ Some first → IsStray so_far first → behind_all so_far (said strict (bytes ∷ lines)) ≡ Some (plan_lines jobs) → ⊥
stray strict so_far bytes lines words first jobs h k s all =
    no_plan so_far first (said strict lines) jobs s (
    ap (λ f. behind_all so_far (onto f (said strict lines))) (sym k) ∙ ap (behind_all so_far) (sym (said_words strict bytes lines words h)) ∙ all
    )

pub no_words : (strict : Bool) (so_far : List PlanLine) (bytes : List ℕ) (lines words : List (List ℕ)) (jobs : List Job) → words_of_line bytes ≡ Some words → line_of strict words ≡ None → behind_all so_far (said strict (bytes ∷ lines)) ≡ Some (plan_lines jobs) → ⊥
no_words strict so_far bytes lines words jobs h k all =
    let none : ◌≡◌ {A = Option (List PlanLine)} None (Some (plan_lines jobs)) = sym (said_bad strict so_far bytes lines words h k) ∙ all in
    absurd (cc)
