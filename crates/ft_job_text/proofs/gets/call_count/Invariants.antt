use Rattle.std.proofs.Common.{◌≡◌, ◌≤◌, take}
use Rattle.std.specs.List.{count_by}
use Rattle.ft_job_reports.specs.Asked.{is_call}
use Rattle.ft_job_text.proofs.gets.call_count.Given as goal

-- as many as among the steps so far
abbrev pub invariant-loop-step : goal.invariant-loop-step
invariant-loop-step l = record { counted : l.count ≡ count_by is_call (take l.step-index l.steps); small : l.count ≤ l.step-index }
