use Rattle.std.proofs.Common.{◌≡◌, ◌≤◌, take}
use Rattle.std.specs.List.{count_by}
use Rattle.ft_plan.specs.Plans.{is_subs}
use Rattle.ft_plan.proofs.rules.subs_count.Given as goal

-- as many as among the steps so far
abbrev pub invariant-loop-step : goal.invariant-loop-step
invariant-loop-step l = record { counted : l.count ≡ count_by is_subs (take l.step-index l.steps); small : l.count ≤ l.step-index }
