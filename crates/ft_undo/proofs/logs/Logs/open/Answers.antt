use Rattle.ft_undo.proofs.Logging.{lists-opened, open-opened}
use Rattle.ft_undo.proofs.logs.Logs.open.Goals as goal

pub returns-clause-lists : goal.returns-clause-lists
returns-clause-lists c = rw (← c.self.view_is) (lists-opened c.open.result c.self.inside.chains c.open.new.self c.args.txn c.open.ensures.ok c.open.ensures.err)

pub returns-clause-opened : goal.returns-clause-opened
returns-clause-opened c = rw (← c.self.view_is) (open-opened c.open.result c.self.inside.chains c.open.new.self c.args.txn c.open.ensures.ok)
