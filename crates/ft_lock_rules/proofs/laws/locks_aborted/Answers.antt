use Rattle.ft_lock_rules.proofs.Following.{abort_law}
use Rattle.ft_lock_rules.proofs.laws.locks_aborted.Goals as goal

pub returns : goal.returns
returns c = abort_law c.lawful.ensures
