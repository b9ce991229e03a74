use Rattle.ft_posix.proofs.Climbing.{steps-alike, stored-enough}
use Rattle.ft_posix.proofs.Kept.{soundness}
use Rattle.ft_posix.proofs.Making.{making}
use Rattle.ft_posix.proofs.laws.making.Goals as goal

pub returns : goal.returns
returns c = making steps-alike stored-enough soundness
