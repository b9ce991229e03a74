use Rattle.ft_lock_rules.proofs.Following.{begin_law}
use Rattle.ft_lock_rules.proofs.laws.locks_begun.Goals as goal

pub returns : goal.returns
returns c = begin_law c.lawful.ensures
