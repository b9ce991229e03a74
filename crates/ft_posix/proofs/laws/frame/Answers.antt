use Rattle.ft_posix.proofs.Climbing.{steps-alike, stored-enough}
use Rattle.ft_posix.proofs.Framed.{frame}
use Rattle.ft_posix.proofs.laws.frame.Goals as goal

pub returns : goal.returns
returns c = frame steps-alike stored-enough
