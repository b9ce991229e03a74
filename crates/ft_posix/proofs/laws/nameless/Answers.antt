use Rattle.ft_posix.proofs.Nameless.{nameless}
use Rattle.ft_posix.proofs.laws.nameless.Goals as goal

pub returns : goal.returns
returns c = nameless
