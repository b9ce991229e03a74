-- Where a step stands among the lines that a plan says.
use Rattle.std.proofs.Common.{◌≡◌, ◌⊎◌, inl, inr, ℕ, suc, ◌+◌, ◌-◌, ◌≤◌, List, [], ◌∷◌, ◌++◌, length, map, Some, ap, subst, ◌∙◌, arith}
use Rattle.std.specs.Prelude.{slice_get}
use Rattle.ft_plan.specs.declared.job.Job.{Job}
use Rattle.ft_plan.specs.declared.job.Step.{Step}
use Rattle.ft_plan.specs.declared.line.PlanLine.{PlanLine}
use Rattle.ft_plan.specs.declared.line.PlanLine.TheVariants as plan_line
use Rattle.ft_plan.specs.Plans.{after_lines, plan_lines, step_at}
use Rattle.ft_plan_files.specs.Places.{Count}

-- The step is the one of this number of the job before which there are so many jobs, if so many jobs
-- and steps come before these lines.
abbrev pub StandsAt : Count → List PlanLine → ℕ → ℕ → Step → Type 0
StandsAt count [] job number step = ⊥
StandsAt count (plan_line.Job name parent kind ∷ lines) job number step = StandsAt (suc count.0, 0) lines job number step
StandsAt count (plan_line.After names ∷ lines) job number step = StandsAt count lines job number step
StandsAt count (plan_line.Step first ∷ lines) job number step = ((job ≡ count.0 - 1) × (number ≡ suc count.1) × (first ≡ step)) ⊎ StandsAt (count.0, suc count.1) lines job number step

-- ---- among the steps of a job

-- the step is one of these, after so many
pub record IsAmong (steps : List Step) (before number : ℕ) (step : Step) : Type 0 where
  pub place : ℕ
  pub number_is : number ≡ suc (before + place)
  pub found : slice_get steps place ≡ Some step

among_steps : (jobs before : ℕ) (steps : List Step) (lines : List PlanLine) (job number : ℕ) (step : Step) → StandsAt (jobs, before) (map plan_line.Step steps ++ lines) job number step
    → ((job ≡ jobs - 1) × IsAmong steps before number step) ⊎ StandsAt (jobs, before + length steps) lines job number step
among_steps jobs before [] lines job number step stands = inr (subst (λ n. StandsAt (jobs, n) lines job number step) (omega arith) stands)
among_steps jobs before (first ∷ steps) lines job number step stands = either stands (among_steps jobs (suc before) steps lines job number step)
  where
    later : ((job ≡ jobs - 1) × IsAmong steps (suc before) number step) ⊎ StandsAt (jobs, suc before + length steps) lines job number step → ((job ≡ jobs - 1) × IsAmong (first ∷ steps) before number step) ⊎ StandsAt (jobs, before + suc (length steps)) lines job number step
    later (inl among) =
        let number_is = among.1.number_is in
        inl (among.0, record { place = suc among.1.place; number_is = omega (arith, number_is); found = among.1.found })
    later (inr more) = inr (subst (λ n. StandsAt (jobs, n) lines job number step) (omega arith) more)

    either : ((job ≡ jobs - 1) × (number ≡ suc before) × (first ≡ step)) ⊎ StandsAt (jobs, suc before) (map plan_line.Step steps ++ lines) job number step
        → (StandsAt (jobs, suc before) (map plan_line.Step steps ++ lines) job number step → ((job ≡ jobs - 1) × IsAmong steps (suc before) number step) ⊎ StandsAt (jobs, suc before + length steps) lines job number step)
        → ((job ≡ jobs - 1) × IsAmong (first ∷ steps) before number step) ⊎ StandsAt (jobs, before + suc (length steps)) lines job number step
    either (inl here) again =
        let number_is = here.1 in
        inl (here.0, record { place = 0; number_is = omega (arith, number_is); found = ap Some here.2 })
    either (inr more) again = later (again more)

-- ---- among the jobs of a plan

-- the step is the one of this number of the job at this place, if the first job is at that place
pub record IsIn (jobs : List Job) (first place number : ℕ) (step : Step) : Type 0 where
  pub job : Job
  pub from : first ≤ place
  pub found : slice_get jobs (place - first) ≡ Some job
  pub step_is : step_at job.steps number ≡ Some step

skip_after : (names : List (List ℕ)) (count : Count) (lines more : List PlanLine) (job number : ℕ) (step : Step) → StandsAt count ((after_lines names ++ lines) ++ more) job number step → StandsAt count (lines ++ more) job number step
skip_after [] count lines more job number step stands = stands
skip_after (name ∷ names) count lines more job number step stands = stands

pub among_jobs : (jobs : List Job) (first steps place number : ℕ) (step : Step) → StandsAt (first, steps) (plan_lines jobs) place number step → IsIn jobs first place number step
among_jobs [] first steps place number step stands = absurd stands
among_jobs (job ∷ jobs) first steps place number step stands =
    either
    (among_steps (suc first) 0 job.steps (plan_lines jobs) place number step (skip_after job.after (suc first, 0) (map plan_line.Step job.steps) (plan_lines jobs) place number step stands))
    (among_jobs jobs (suc first) (0 + length job.steps) place number step)
  where
    either : ((place ≡ suc first - 1) × IsAmong job.steps 0 number step) ⊎ StandsAt (suc first, 0 + length job.steps) (plan_lines jobs) place number step
        → (StandsAt (suc first, 0 + length job.steps) (plan_lines jobs) place number step → IsIn jobs (suc first) place number step) → IsIn (job ∷ jobs) first place number step
    either (inl among) again =
        let here = among.0 in
        let nothing : place - first ≡ 0 = omega (arith, here) in
        let number_is = among.1.number_is in
        let next : number ≡ suc among.1.place = omega (arith, number_is) in
        record { job = job; from = omega (arith, here); found = ap (slice_get (job ∷ jobs)) nothing; step_is = ap (step_at job.steps) next ∙ among.1.found }
    either (inr more) again =
        let is = again more in
        let from = is.from in
        let one_more : place - first ≡ suc (place - suc first) = omega (arith, from) in
        record { job = is.job; from = omega (arith, from); found = ap (slice_get (job ∷ jobs)) one_more ∙ is.found; step_is = is.step_is }
