use Rattle.ft_lock_rules.proofs.Following.{owner_law}
use Rattle.ft_lock_rules.proofs.laws.locks_live.Goals as goal

pub returns : goal.returns
returns c = owner_law c.lawful.ensures
