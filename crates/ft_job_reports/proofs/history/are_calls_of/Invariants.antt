use Rattle.std.proofs.Common.{◌≤◌, length}
use Rattle.ft_job_reports.specs.Reading.{granted_by}
use Rattle.ft_job_reports.proofs.Fronts.{IsFront}
use Rattle.ft_job_reports.proofs.history.are_calls_of.Given as goal

-- so many calls are those of the events so far
abbrev pub invariant-loop-event : goal.invariant-loop-event
invariant-loop-event l = record {
  same : IsFront (granted_by l.txn) l.events l.calls l.event-index l.made;
  small : l.made ≤ length l.calls;
}
