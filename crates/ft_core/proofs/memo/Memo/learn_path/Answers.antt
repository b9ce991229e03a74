use Rattle.ft_core.proofs.Memos.{forgotten}
use Rattle.ft_core.proofs.memo.Memo.learn_path.Goals as goal

pub returns-else-is_learnt : goal.returns-else-is_learnt
returns-else-is_learnt c = forgotten c.is_learnt.new.self _ _ c.is_learnt.ensures.txn

pub returns-else-ne : goal.returns-else-ne
returns-else-ne c = forgotten c.is_learnt.new.self _ _ c.is_learnt.ensures.txn
