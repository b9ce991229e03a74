use Rattle.ft_posix.proofs.Restoring.{restoring}
use Rattle.ft_posix.proofs.laws.restoring.Goals as goal

pub returns : goal.returns
returns c = restoring
