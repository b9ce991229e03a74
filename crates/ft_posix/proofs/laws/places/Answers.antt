use Rattle.ft_posix.proofs.Applying.{call-made}
use Rattle.ft_posix.proofs.laws.places.Goals as goal

pub returns : goal.returns
returns c = call-made
