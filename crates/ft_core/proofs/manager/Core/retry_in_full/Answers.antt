use Rattle.ft_core.proofs.Asked.{told-waited}
use Rattle.ft_core.proofs.manager.Core.retry_in_full.Goals as goal

pub returns-clause-told : goal.returns-clause-told
returns-clause-told c = let asked = c.request_in_full in told-waited c.args.self.now.state asked.new.self.state c.args.txn asked.result asked.ensures.asked
