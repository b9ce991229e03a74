use Rattle.ft_posix.proofs.PlainLooks.{plain_accesses}
use Rattle.ft_posix.proofs.laws.plain_accesses.Goals as goal

pub returns : goal.returns
returns c = plain_accesses
