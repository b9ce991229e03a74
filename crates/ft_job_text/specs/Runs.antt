-- The text that a run of a plan writes.
use Rattle.std.specs.Prelude.{◌≡◌, ℕ, List, Option, All, map}
use Rattle.std.specs.Io.KnownBytes.{Appends, Keeps}
use Rattle.ft_cells.specs.Rows.{rows_of}
use Rattle.ft_core.specs.States.{State, tree_of}
use Rattle.ft_record.specs.Going.{GoesOn}
use Rattle.ft_plan.specs.declared.fault.JobFault.TheVariants.{Memory, BadPlan, Mismatch, Thread}
use Rattle.ft_plan.specs.declared.job.Job.{Job}
use Rattle.ft_plan.specs.Plans.{IsPlanOf}
use Rattle.ft_words.specs.Texts.{tree_text}
use Rattle.ft_job_reports.specs.Reports.{AreReports, are_met}
use Rattle.ft_jobs.specs.declared.running.JobsOutcome.{JobsOutcome}
use Rattle.ft_shared.specs.Victims.{WasVictim}
use Rattle.ft_script.specs.Runs.{WritesPart}
use Rattle.ft_job_text.specs.declared.running.RunFault.{RunFault}
use Rattle.ft_job_text.specs.declared.running.RunFault.TheVariants as faults
use Rattle.ft_plan_files.specs.declared.places.GetPlace.{GetPlace}
use Rattle.ft_plan_files.specs.declared.plan.WrittenPlan.{WrittenPlan}
use Rattle.ft_job_text.specs.declared.plan_end.PlanEnd.{PlanEnd}
use Rattle.ft_job_text.specs.Gets.{bytes_got}
use Rattle.ft_job_text.specs.Texts.{outcome_text}

-- the text of what came of jobs: of their reports, of the events of the core, and of the rows of
-- the tree of its state
abbrev pub text_of_outcome : List Job → JobsOutcome → List ℕ
text_of_outcome jobs outcome = outcome_text jobs outcome.reports.items outcome.core.state.events (tree_text (rows_of (tree_of outcome.core.state)))

-- The text is that of an outcome of jobs: they have run on a core that was in this state, and their
-- reports are what happened; and whether they ended as the plan means, if it is strict, and what the
-- `get`s of these places got.
pub record IsTextOfJobs (end : PlanEnd) (gets : List GetPlace) (from : State) (jobs : List Job) (text : List ℕ) : Type 0 where
  pub outcome : JobsOutcome
  pub goes_on : GoesOn from outcome.core.state
  pub reports : AreReports outcome.core.state jobs outcome.victims.items outcome.reports.items
  -- each victim was aborted when it was the one on a cycle of waits that is to be aborted
  pub victims : All (WasVictim outcome.core.state) outcome.victims.items
  pub told : text ≡ text_of_outcome jobs outcome
  pub as_meant : end.met ≡ are_met jobs outcome.reports.items
  pub got : end.got.items ≡ map (bytes_got jobs outcome.reports.items) gets

-- the bytes are the plan of some jobs, and the text is that of an outcome of them
abbrev pub IsTextOfPlan : PlanEnd → State → WrittenPlan → List ℕ → Type 0
IsTextOfPlan end from plan text = (jobs : List Job) × IsPlanOf plan.bytes.items jobs × IsTextOfJobs end plan.gets.items from jobs text

-- the bytes are the plan of no jobs
abbrev pub IsNoPlan : List ℕ → Type 0
IsNoPlan bytes = (jobs : List Job) → IsPlanOf bytes jobs → ⊥

-- A plan was run, and such a text was written, whole and nothing else.
abbrev pub RunsPlan : PlanEnd → State → WrittenPlan → Option (List ℕ) → Option (List ℕ) → Type 0
RunsPlan end from plan before after = (text : List ℕ) × IsTextOfPlan end from plan text × Appends before after text

-- A fault leaves this: nothing was written, at BadPlan if the bytes are no plan; a part of such a
-- text at Write.
abbrev pub StopsPlan : RunFault → State → WrittenPlan → Option (List ℕ) → Option (List ℕ) → Type 0
StopsPlan (faults.Jobs BadPlan) from plan before after = IsNoPlan plan.bytes.items × Keeps before after
StopsPlan (faults.Jobs Memory) from plan before after = Keeps before after
StopsPlan (faults.Jobs Mismatch) from plan before after = Keeps before after
StopsPlan (faults.Jobs Thread) from plan before after = Keeps before after
StopsPlan faults.Write from plan before after = (end : PlanEnd) × (text : List ℕ) × IsTextOfPlan end from plan text × WritesPart before after text
