use Rattle.std.proofs.Common.{ℕ, List, inl, inr, sym, ◌∙◌, subst}
use Rattle.std.proofs.lemmas.Bool.{MatchBool-at_true, false≢true}
use Rattle.ft_job_reports.specs.declared.report.Report.{Report}
use Rattle.ft_job_reports.specs.Reports.{AreReports}
use Rattle.ft_jobs.proofs.running.JobsOutcome.checked.Goals as goal
use Rattle.ft_jobs.proofs.running.JobsOutcome.checked.Goals.{then-has_live-via-then-has_live, then-has_live-via-else-has_live+in_ok-are_reports+then-not-branch}

pub returns-then-has_live-clause-mismatch : goal.returns-then-has_live-clause-mismatch
returns-then-has_live-clause-mismatch c =
    elim c.then-has_live.branch [
      | then-has_live-via-then-has_live w ↦ λ is. inl (MatchBool-at_true _ _ w.if-has_live.true c.has_live.ensures.found)
      | then-has_live-via-else-has_live+in_ok-are_reports+then-not-branch w ↦ λ is. inr (λ are. absurd (false≢true (sym w.if-not-branch.true ∙ w.in_ok-are_reports.ensures.1
          (subst (λ (vs : List ℕ). AreReports c.args.core.state c.args.plan.now vs w.as_slice-else-has_live.result.now) (sym w.as_slice.ensures.value)
          (subst (λ (rs : List Report). AreReports c.args.core.state c.args.plan.now c.args.victims.items rs) (sym w.as_slice-else-has_live.ensures.value) are)))))
    ]
