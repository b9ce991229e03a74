use Rattle.ft_posix.proofs.WholeRuns.{runs}
use Rattle.ft_posix.proofs.laws.runs.Goals as goal

pub returns : goal.returns
returns c = runs
