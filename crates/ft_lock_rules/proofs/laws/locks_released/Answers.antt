use Rattle.ft_lock_rules.proofs.Following.{release_law}
use Rattle.ft_lock_rules.proofs.laws.locks_released.Goals as goal

pub returns : goal.returns
returns c = release_law
