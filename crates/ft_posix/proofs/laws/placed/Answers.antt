use Rattle.ft_posix.proofs.SoundPlaces.{placed}
use Rattle.ft_posix.proofs.laws.placed.Goals as goal

pub returns : goal.returns
returns c = placed
