use Rattle.ft_lock_rules.proofs.Following.{foreign_law}
use Rattle.ft_lock_rules.proofs.laws.locks_foreign.Goals as goal

pub returns : goal.returns
returns c = foreign_law c.lawful.ensures
