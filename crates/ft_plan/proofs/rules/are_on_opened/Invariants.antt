use Rattle.std.proofs.Common.{◌≡◌, [], take, drop}
use Rattle.ft_plan.specs.Plans.{all_behind, is_on_opened}
use Rattle.ft_plan.proofs.rules.are_on_opened.Given as goal

-- what is left to test decides
abbrev pub invariant-loop-at : goal.invariant-loop-at
invariant-loop-at l = all_behind is_on_opened (take l.at l.steps) (drop l.at l.steps) ≡ all_behind is_on_opened [] l.steps
