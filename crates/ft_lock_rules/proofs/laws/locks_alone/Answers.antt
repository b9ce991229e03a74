use Rattle.ft_lock_rules.proofs.Following.{alone_law}
use Rattle.ft_lock_rules.proofs.laws.locks_alone.Goals as goal

pub returns : goal.returns
returns c = alone_law c.lawful.ensures
