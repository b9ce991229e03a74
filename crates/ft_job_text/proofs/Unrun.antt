-- What a plan leaves whose jobs were not run.
use Rattle.std.proofs.Common.{◌≡◌, ℕ, List, Option, Result, Ok, Err, IsErr, IfErr, refl, sym, subst}
use Rattle.std.specs.Result.{IsErrAnd}
use Rattle.ft_core.specs.States.{State}
use Rattle.ft_plan.specs.declared.fault.JobFault.{JobFault}
use Rattle.ft_plan.specs.declared.fault.JobFault.TheVariants.{Memory, BadPlan, Mismatch, Thread}
use Rattle.ft_script.proofs.Running.{keeps_refl}
use Rattle.ft_job_text.specs.declared.running.RunFault.{RunFault}
use Rattle.ft_job_text.specs.declared.running.RunFault.TheVariants.{Jobs}
use Rattle.ft_plan_files.specs.declared.plan.WrittenPlan.{WrittenPlan}
use Rattle.ft_job_text.specs.Runs.{IsNoPlan, StopsPlan}

-- nothing was written
pub unrun : (fault : JobFault) (from : State) (plan : WrittenPlan) (held : Option (List ℕ)) → (fault ≡ BadPlan → IsNoPlan plan.bytes.items) → StopsPlan (Jobs fault) from plan held held
unrun Memory from plan held h = keeps_refl held
unrun BadPlan from plan held h = (h refl, keeps_refl held)
unrun Mismatch from plan held h = keeps_refl held
unrun Thread from plan held h = keeps_refl held

pub passed_on : {T : Type 0} (r : Result T RunFault) (fault : JobFault) (from : State) (plan : WrittenPlan) (held : Option (List ℕ)) → IsErr r × IsErrAnd r (λ e. e ≡ Jobs fault)
    → StopsPlan (Jobs fault) from plan held held → IfErr r (λ f. StopsPlan f from plan held held)
passed_on (Ok x) fault from plan held is h = tt
passed_on (Err e) fault from plan held is h = subst (λ (f : RunFault). StopsPlan f from plan held held) (sym is.1) h
