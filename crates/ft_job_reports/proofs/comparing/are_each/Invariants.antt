use Rattle.std.proofs.Common.{ℕ, ◌<◌}
use Rattle.ft_core.specs.Histories.{told}
use Rattle.ft_job_reports.specs.Reports.{IsReportAt}
use Rattle.ft_job_reports.proofs.comparing.are_each.Given as goal

-- the reports so far are those of their jobs
abbrev pub invariant-loop-at : goal.invariant-loop-at
invariant-loop-at l = (k : ℕ) → k < l.at → IsReportAt (told l.events) l.jobs l.reports k
