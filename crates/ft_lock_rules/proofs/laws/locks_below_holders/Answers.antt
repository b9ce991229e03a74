use Rattle.ft_lock_rules.proofs.Above.{holder_law}
use Rattle.ft_lock_rules.proofs.laws.locks_below_holders.Goals as goal

pub returns : goal.returns
returns c = holder_law c.lawful.ensures
