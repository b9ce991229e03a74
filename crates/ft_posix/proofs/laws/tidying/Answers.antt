use Rattle.ft_posix.proofs.Executed.{tidying}
use Rattle.ft_posix.proofs.laws.tidying.Goals as goal

pub returns : goal.returns
returns c = tidying
