use Rattle.ft_lock_rules.proofs.Following.{block_law}
use Rattle.ft_lock_rules.proofs.laws.locks_block.Goals as goal

pub returns : goal.returns
returns c = block_law c.lawful.ensures
