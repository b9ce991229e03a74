use Rattle.std.proofs.Common.{◌≡◌, ◌++◌, length}
use Rattle.std.specs.Prelude.{reverse}
use Rattle.ft_into.proofs.gone.move_turned.Given as goal

-- what was moved, and what is left turned round, are all
abbrev pub invariant-loop-step : goal.invariant-loop-step
invariant-loop-step l = l.to.items ++ reverse l.from.items ≡ l.initial.to.items ++ reverse l.initial.from.items

abbrev pub decreases-loop-step : goal.decreases-loop-step
decreases-loop-step l = length l.from.items
