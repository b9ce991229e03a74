use Rattle.std.proofs.Common.{◌≡◌, drop}
use Rattle.ft_job_reports.specs.Reports.{stamps_rise}
use Rattle.ft_job_reports.proofs.history.has_rising_stamps.Given as goal

-- what is left decides
abbrev pub invariant-loop-call : goal.invariant-loop-call
invariant-loop-call l = stamps_rise l.before (drop l.call-index l.calls) ≡ stamps_rise 0 l.calls
