use Rattle.ft_shared.proofs.Ends.{undone_is}
use Rattle.ft_shared.proofs.shareable.CoreShareable.undo_call.Goals as goal

pub returns-clause-step : goal.returns-clause-step
returns-clause-step c = undone_is c.args.self.now.state c.undo_call.new.self.state c.args.txn c.undo_call.result c.undo_call.ensures.step c.undo_call.ensures.just_made
