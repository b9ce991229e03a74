use Rattle.ft_plan_names.proofs.Places.{lines_keep_places}
use Rattle.ft_plan_names.proofs.laws.lines_keep_places.Goals as goal

pub returns : goal.returns
returns c = lines_keep_places
