use Rattle.ft_plan_files.proofs.StepCalls.{put_said}
use Rattle.ft_plan_files.proofs.laws.put_steps_are_calls.Goals as goal

pub returns : goal.returns
returns c = put_said
