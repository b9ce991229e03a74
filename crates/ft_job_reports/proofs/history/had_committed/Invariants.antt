use Rattle.std.proofs.Common.{◌≡◌, false, drop}
use Rattle.ft_job_reports.specs.Reading.{seen_behind}
use Rattle.ft_job_reports.proofs.history.had_committed.Given as goal

-- what is left decides
abbrev pub invariant-loop-event : goal.invariant-loop-event
invariant-loop-event l =
    seen_behind l.txn l.before l.seen (drop l.event-index l.events) ≡ seen_behind l.txn l.before (record { committed = false; had = false }) l.events
