use Rattle.std.proofs.Common.{rules, Err, ap, ◌≡◌, ℕ, List, subst}
use Rattle.ft_job_text.specs.Runs.{IsNoPlan}
use Rattle.ft_job_text.proofs.Told.{of_plan}
use Rattle.ft_job_text.proofs.Unrun.{passed_on, unrun}
use Rattle.ft_job_text.proofs.running.run_plan.Goals as goal

pub returns-in-Ok-clause-ok : goal.returns-in-Ok-clause-ok
returns-in-Ok-clause-ok g c =
    let told = of_plan c.in_ok-text.end c.args.core.state c.args.run.plan.now c.in_ok-plan.plan _ _ _ _ (search rules) (search rules) c.as_bytes.ensures.value c.in_ok-plan.ensures.plan c.in_ok-text.ensures.ok in
    (c.as_bytes.result.now, told, c.in-Ok.ensures.ok)

pub returns-clause-fault : goal.returns-clause-fault
returns-clause-fault g c =
    let told = of_plan c.in_ok-text.end c.args.core.state c.args.run.plan.now c.in_ok-plan.plan _ _ _ _ (search rules) (search rules) c.as_bytes.ensures.value c.in_ok-plan.ensures.plan c.in_ok-text.ensures.ok in
    (c.in_ok-text.end, c.as_bytes.result.now, told, c.in-Err.ensures.err)

pub returns-in_err-text-clause-fault : goal.returns-in_err-text-clause-fault
returns-in_err-text-clause-fault g c =
    let fault = c.in_err-text.field-0.0 in
    let plan = c.args.run.plan.now in
    let held = g.W.Write.contents c.args.writer.now in
    passed_on c.from_residual-in_err-text.result fault c.args.core.state plan held c.from_residual-in_err-text.ensures (unrun fault c.args.core.state plan held (λ same. absurd (c.in_err-text.ensures.cause same)))

pub returns-in_err-plan-clause-fault : goal.returns-in_err-plan-clause-fault
returns-in_err-plan-clause-fault g c =
    let fault = c.in_err-plan.field-0.0 in
    let plan = c.args.run.plan.now in
    let held = g.W.Write.contents c.args.writer.now in
    let bytes_are : c.as_slice.result.now ≡ c.args.run.plan.now.bytes.items = search rules in
    passed_on c.from_residual.result fault c.args.core.state plan held c.from_residual.ensures
    (unrun fault c.args.core.state plan held (λ same. subst (λ (bytes : List ℕ). IsNoPlan bytes) bytes_are (c.in_err-plan.ensures.bad_plan (ap Err same))))
