use Rattle.ft_lock_rules.specs.Holdings.{lists_under}
use Rattle.ft_lock_rules.proofs.Joining.{joined-none}
use Rattle.ft_lock_rules.proofs.Under.{empty-under, used-none}
use Rattle.ft_locks.proofs.holdings.Holdings.new.Goals as goal

pub invariant_of-result : goal.invariant_of-result
invariant_of-result c = record {
  joined = joined-none c.new.result.cells (lists_under c.new.result.at c.new-2.result) c.new.ensures.cells (empty-under c.new.result.at c.new-2.result c.new-2.ensures);
  used = used-none c.new.result.at c.new-2.result c.new-2.ensures;
}

pub returns-clause-lists : goal.returns-clause-lists
returns-clause-lists c = empty-under c.new.result.at c.new-2.result c.new-2.ensures
