use Rattle.ft_posix.proofs.Lawful.{writes-noted}
use Rattle.ft_posix.proofs.laws.writes.Goals as goal

pub returns : goal.returns
returns c = writes-noted
