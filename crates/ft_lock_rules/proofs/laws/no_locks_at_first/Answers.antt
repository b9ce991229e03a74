use Rattle.ft_lock_rules.proofs.Following.{first_law}
use Rattle.ft_lock_rules.proofs.laws.no_locks_at_first.Goals as goal

pub returns : goal.returns
returns c = first_law
