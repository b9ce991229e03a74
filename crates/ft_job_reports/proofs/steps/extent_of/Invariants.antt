use Rattle.std.proofs.Common.{◌≤◌, length}
use Rattle.ft_job_reports.specs.Asked.{asked_by, calls_told}
use Rattle.ft_job_reports.proofs.Fronts.{IsFront}
use Rattle.ft_job_reports.proofs.steps.extent_of.Given as goal

-- so many calls are those of the steps so far
abbrev pub invariant-loop-step : goal.invariant-loop-step
invariant-loop-step l = record {
  same : IsFront (asked_by l.descriptors) l.steps (calls_told l.calls) l.step-index l.made;
  small : l.made ≤ length l.calls;
}
