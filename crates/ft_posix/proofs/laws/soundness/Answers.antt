use Rattle.ft_posix.proofs.Kept.{soundness}
use Rattle.ft_posix.proofs.laws.soundness.Goals as goal

pub returns : goal.returns
returns c = soundness
