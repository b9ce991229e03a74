use Rattle.ft_posix.proofs.Framed.{kept}
use Rattle.ft_posix.proofs.laws.others_kept.Goals as goal

pub returns : goal.returns
returns c = kept
