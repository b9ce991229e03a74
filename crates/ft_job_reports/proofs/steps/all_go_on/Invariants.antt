use Rattle.std.proofs.Common.{◌≡◌, drop}
use Rattle.ft_job_reports.specs.Asked.{all_go_on}
use Rattle.ft_job_reports.proofs.steps.all_go_on.Given as goal

-- what is left decides
abbrev pub invariant-loop-step : goal.invariant-loop-step
invariant-loop-step l = all_go_on (drop l.step-index l.steps) l.left ≡ all_go_on l.steps l.fn.calls
