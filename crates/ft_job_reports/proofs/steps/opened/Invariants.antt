use Rattle.std.proofs.Common.{◌≡◌, ◌++◌, drop}
use Rattle.ft_job_reports.specs.Asked.{opened}
use Rattle.ft_job_reports.proofs.steps.opened.Given as goal

-- what the steps so far opened, and what those open that are left
abbrev pub invariant-loop-step : goal.invariant-loop-step
invariant-loop-step l = l.descriptors.items ++ opened (drop l.step-index l.steps) l.left ≡ opened l.steps l.fn.calls
