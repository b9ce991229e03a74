use Rattle.ft_lock_rules.proofs.Following.{grant_law}
use Rattle.ft_lock_rules.proofs.laws.locks_granted.Goals as goal

pub returns : goal.returns
returns c = grant_law c.lawful.ensures
