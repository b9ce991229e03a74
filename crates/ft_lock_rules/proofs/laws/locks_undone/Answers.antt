use Rattle.ft_lock_rules.proofs.Following.{undo_law}
use Rattle.ft_lock_rules.proofs.laws.locks_undone.Goals as goal

pub returns : goal.returns
returns c = undo_law c.lawful.ensures
