use Rattle.std.proofs.Common.{◌≡◌, drop}
use Rattle.ft_job_reports.specs.Reports.{have_own_txns}
use Rattle.ft_job_reports.proofs.comparing.have_own_txns.Given as goal

-- what is left decides
abbrev pub invariant-loop-at : goal.invariant-loop-at
invariant-loop-at l = have_own_txns (drop l.at l.reports) ≡ have_own_txns l.reports
