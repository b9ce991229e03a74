use Rattle.ft_plan_names.proofs.Counting.{counted}
use Rattle.ft_plan_names.proofs.laws.steps_are_counted.Goals as goal

pub returns : goal.returns
returns c = counted
