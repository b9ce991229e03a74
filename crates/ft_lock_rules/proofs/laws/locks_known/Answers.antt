use Rattle.ft_lock_rules.proofs.Knowing.{known_law}
use Rattle.ft_lock_rules.proofs.laws.locks_known.Goals as goal

pub returns : goal.returns
returns c = known_law
