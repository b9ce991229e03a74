use Rattle.ft_lock_rules.proofs.Tables.{cell_locked}
use Rattle.ft_lock_rules.proofs.laws.locks_lock.Goals as goal

pub returns : goal.returns
returns c = cell_locked
