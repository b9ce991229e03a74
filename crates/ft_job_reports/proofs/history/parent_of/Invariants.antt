use Rattle.std.proofs.Common.{◌≡◌, None, drop}
use Rattle.ft_job_reports.specs.Reading.{parent_behind}
use Rattle.ft_job_reports.proofs.history.parent_of.Given as goal

-- what is left decides
abbrev pub invariant-loop-event : goal.invariant-loop-event
invariant-loop-event l = parent_behind l.txn l.parent (drop l.event-index l.events) ≡ parent_behind l.txn None l.events
