use Rattle.ft_plan_names.proofs.Keeping.{line_stays}
use Rattle.ft_plan_names.proofs.laws.plain_lines_stay.Goals as goal

pub returns : goal.returns
returns c = line_stays
