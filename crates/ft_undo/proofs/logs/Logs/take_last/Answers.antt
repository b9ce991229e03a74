use Rattle.ft_undo.proofs.Logging.{is_popped}
use Rattle.ft_undo.proofs.logs.Logs.take_last.Goals as goal

pub returns-clause-lists : goal.returns-clause-lists
returns-clause-lists c = rw (← c.self.view_is) (is_popped c.self.inside.chains c.pop_front.new.self c.args.txn c.pop_front.result c.pop_front.ensures.value c.pop_front.ensures.some c.pop_front.ensures.none).lists

pub returns-clause-opened : goal.returns-clause-opened
returns-clause-opened c = rw (← c.self.view_is) (is_popped c.self.inside.chains c.pop_front.new.self c.args.txn c.pop_front.result c.pop_front.ensures.value c.pop_front.ensures.some c.pop_front.ensures.none).opened
