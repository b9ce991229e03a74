use Rattle.ft_plan_files.proofs.Staying.{plan_stays}
use Rattle.ft_plan_files.proofs.laws.plans_stay.Goals as goal

pub returns : goal.returns
returns c = plan_stays (λ told. Unit {0})
