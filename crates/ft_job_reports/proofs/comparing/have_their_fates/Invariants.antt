use Rattle.std.proofs.Common.{take}
use Rattle.std.specs.Prelude.{All}
use Rattle.ft_job_reports.specs.Reports.{HasItsFate}
use Rattle.ft_job_reports.proofs.comparing.have_their_fates.Given as goal

-- the reports so far say what became of their transactions
abbrev pub invariant-loop-report : goal.invariant-loop-report
invariant-loop-report l = All (HasItsFate l.core.state l.victims) (take l.report-index l.reports)
