use Rattle.ft_owned_lists.proofs.ChainCalls.{no-chains, no-lists}
use Rattle.ft_owned_lists.proofs.owned_lists.OwnedLists.new.Goals as goal

pub invariant_of-result : goal.invariant_of-result
invariant_of-result g c = no-chains c.new.result c.new-2.result c.new-2.ensures

pub returns : goal.returns
returns g c = no-lists c.new.result c.new-2.result c.new-2.ensures
