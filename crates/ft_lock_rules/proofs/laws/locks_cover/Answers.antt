use Rattle.ft_lock_rules.proofs.Following.{cover_law}
use Rattle.ft_lock_rules.proofs.laws.locks_cover.Goals as goal

pub returns : goal.returns
returns c = cover_law
