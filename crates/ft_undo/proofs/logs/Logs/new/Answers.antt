use Rattle.ft_undo.proofs.Logging.{lists-none, open-none}
use Rattle.ft_undo.proofs.logs.Logs.new.Goals as goal

pub returns-clause-lists : goal.returns-clause-lists
returns-clause-lists c = lists-none c.new.result c.new.ensures

pub returns-clause-opened : goal.returns-clause-opened
returns-clause-opened c = open-none c.new.result c.new.ensures
