use Rattle.ft_posix.proofs.HiddenFiles.{hiding}
use Rattle.ft_posix.proofs.laws.hiding.Goals as goal

pub returns : goal.returns
returns c = hiding
