-- A report at a place, and its job.
use Rattle.std.proofs.Common.{◌≡◌, ℕ, List, Option, Some, None, ap, sym, subst, ◌∙◌}
use Rattle.std.specs.List.{slice_get}
use Rattle.std.specs.Option.{option_map_or}
use Rattle.std.specs.Prelude.{MatchOption}
use Rattle.ft_core.specs.Histories.{History}
use Rattle.ft_plan.specs.declared.job.Job.{Job}
use Rattle.ft_job_reports.specs.declared.report.Report.{Report}
use Rattle.ft_job_reports.specs.Reports.{IsReport, IsReportAt}

module _ (h : History) (jobs : List Job) (reports : List Report) (at : ℕ) (r : Report) (there : slice_get reports at ≡ Some r) where
  -- if it has no job, it is no report
  pub no-job : slice_get jobs r.job ≡ None → IsReportAt h jobs reports at → ⊥
  no-job none all = subst (λ o. MatchOption o ⊥ (λ job. IsReport h jobs reports at job r)) none (all r there)

  -- it is that of its job
  pub at-job : (job : Job) → slice_get jobs r.job ≡ Some job → IsReportAt h jobs reports at → IsReport h jobs reports at job r
  at-job job known all = subst (λ o. MatchOption o ⊥ (λ j. IsReport h jobs reports at j r)) known (all r there)

  pub of-job : (job : Job) → slice_get jobs r.job ≡ Some job → IsReport h jobs reports at job r → IsReportAt h jobs reports at
  of-job job known is s same =
      subst (λ (t : Report). MatchOption (slice_get jobs t.job) ⊥ (λ j. IsReport h jobs reports at j t)) (ap (λ (o : Option Report). option_map_or (λ (x : Report). x) o r) (sym there ∙ same))
      (subst (λ o. MatchOption o ⊥ (λ j. IsReport h jobs reports at j r)) (sym known) is)
