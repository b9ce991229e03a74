use Rattle.ft_posix.proofs.Leaving.{leaving}
use Rattle.ft_posix.proofs.laws.leaving.Goals as goal

pub returns : goal.returns
returns c = leaving
