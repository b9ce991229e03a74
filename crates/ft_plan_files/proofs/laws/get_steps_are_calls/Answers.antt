use Rattle.ft_plan_files.proofs.StepCalls.{get_said}
use Rattle.ft_plan_files.proofs.laws.get_steps_are_calls.Goals as goal

pub returns : goal.returns
returns c = get_said
