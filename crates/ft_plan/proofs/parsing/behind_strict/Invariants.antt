use Rattle.std.proofs.Common.{◌≡◌, length}
use Rattle.ft_plan.specs.Lines.{behind_strict}
use Rattle.ft_plan.proofs.parsing.behind_strict.Given as goal

-- what is left decides
abbrev pub invariant-loop-line : goal.invariant-loop-line
invariant-loop-line l = behind_strict l.lines ≡ behind_strict l.initial.lines

abbrev pub decreases-loop-line : goal.decreases-loop-line
decreases-loop-line l = length l.lines
