use Rattle.ft_core.specs.declared.request.Request.TheVariants.{Ask}
use Rattle.ft_session.proofs.Refused.{due, wanting}
use Rattle.ft_session.proofs.session.refusal.Goals as goal

pub returns-in-Err : goal.returns-in-Err
returns-in-Err c = λ call. due c.args.core.now.state (Ask c.args.txn call) c.in-Err.fault (c.in-Err.ensures call)

pub returns-in-Ok : goal.returns-in-Ok
returns-in-Ok c = λ call. wanting c.args.core.now.state (Ask c.args.txn call) (c.in-Ok.ensures call) tt
