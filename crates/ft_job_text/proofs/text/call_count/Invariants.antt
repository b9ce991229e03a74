use Rattle.std.proofs.Common.{◌≡◌, ◌≤◌, take}
use Rattle.std.specs.List.{count_by}
use Rattle.ft_job_text.specs.Texts.{is_call}
use Rattle.ft_job_text.proofs.text.call_count.Given as goal

-- as many as among the events so far
abbrev pub invariant-loop-event : goal.invariant-loop-event
invariant-loop-event l = record { counted : l.count ≡ count_by is_call (take l.event-index l.history); small : l.count ≤ l.event-index }
