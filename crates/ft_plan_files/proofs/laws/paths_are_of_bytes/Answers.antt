use Rattle.ft_plan_files.proofs.CarriedPaths.{path_is}
use Rattle.ft_plan_files.proofs.laws.paths_are_of_bytes.Goals as goal

pub returns : goal.returns
returns c = path_is
