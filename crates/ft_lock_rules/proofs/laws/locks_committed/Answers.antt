use Rattle.ft_lock_rules.proofs.Following.{commit_law}
use Rattle.ft_lock_rules.proofs.laws.locks_committed.Goals as goal

pub returns : goal.returns
returns c = commit_law c.lawful.ensures
