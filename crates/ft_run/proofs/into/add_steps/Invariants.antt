use Rattle.std.proofs.Common.{◌≡◌, ◌++◌, take}
use Rattle.std.specs.Prelude.{string_bytes}
use Rattle.ft_run.specs.SavesInto.{step_lines}
use Rattle.ft_run.proofs.into.add_steps.Given as goal

-- the text so far has the line of each step so far
abbrev pub invariant-loop-step : goal.invariant-loop-step
invariant-loop-step l = string_bytes l.text ≡ string_bytes l.initial.text ++ step_lines (take l.step-index l.steps)
