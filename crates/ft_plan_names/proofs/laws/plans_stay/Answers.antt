use Rattle.ft_plan_names.proofs.Counting.{plan_stays}
use Rattle.ft_plan_names.proofs.laws.plans_stay.Goals as goal

pub returns : goal.returns
returns c = plan_stays
