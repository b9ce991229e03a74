use Rattle.ft_posix.proofs.Kept.{freshness}
use Rattle.ft_posix.proofs.laws.freshness.Goals as goal

pub returns : goal.returns
returns c = freshness
