-- The text of what came of a plan, whose bytes and `get`s were read from it.
use Rattle.std.proofs.Common.{◌≡◌, ℕ, List, sym, subst}
use Rattle.ft_core.specs.States.{State}
use Rattle.ft_plan.specs.declared.job.Job.{Job}
use Rattle.ft_plan.specs.Plans.{IsPlanOf}
use Rattle.ft_plan_files.specs.declared.places.GetPlace.{GetPlace}
use Rattle.ft_plan_files.specs.declared.plan.WrittenPlan.{WrittenPlan}
use Rattle.ft_job_text.specs.declared.plan_end.PlanEnd.{PlanEnd}
use Rattle.ft_job_text.specs.Runs.{IsTextOfJobs, IsTextOfPlan}

pub of_plan : (end : PlanEnd) (from : State) (plan : WrittenPlan) (jobs : List Job) (bytes : List ℕ) (gets : List GetPlace) (told text : List ℕ) → bytes ≡ plan.bytes.items → gets ≡ plan.gets.items → text ≡ told → IsPlanOf bytes jobs
    → IsTextOfJobs end gets from jobs told → IsTextOfPlan end from plan text
of_plan end from plan jobs bytes gets told text bytes_are gets_are text_is is_plan is_text = (
  jobs,
  subst (λ (b : List ℕ). IsPlanOf b jobs) bytes_are is_plan,
  subst (IsTextOfJobs end plan.gets.items from jobs) (sym text_is) (subst (λ (g : List GetPlace). IsTextOfJobs end g from jobs told) gets_are is_text),
)
