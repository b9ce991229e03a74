use Rattle.ft_posix.proofs.Values.{values}
use Rattle.ft_posix.proofs.laws.values.Goals as goal

pub returns : goal.returns
returns c = values
