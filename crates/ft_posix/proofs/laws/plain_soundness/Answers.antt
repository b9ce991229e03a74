use Rattle.ft_posix.proofs.PlainSound.{plain_soundness}
use Rattle.ft_posix.proofs.laws.plain_soundness.Goals as goal

pub returns : goal.returns
returns c = plain_soundness
