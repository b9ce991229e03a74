use Rattle.ft_core.specs.declared.request.Request.TheVariants.{Ask}
use Rattle.ft_core.specs.Steps.{outcome_answer}
use Rattle.ft_core.proofs.Asked.{may-ask, step-asked}
use Rattle.ft_core.proofs.Refusing.{step-refused}
use Rattle.ft_core.proofs.manager.Core.ask.Goals as goal

pub returns-in_err-may_ask : goal.returns-in_err-may_ask
returns-in_err-may_ask c =
    step-refused c.args.self.now.state (Ask c.args.txn c.args.call) outcome_answer c.from_residual.result c.in_err-may_ask.field-0.0 c.from_residual.ensures.1 (c.in_err-may_ask.ensures c.args.call)

pub request-requires-clause-few : goal.request-requires-clause-few
request-requires-clause-few c = (may-ask c.args.self.now.state c.args.txn c.args.call (c.in_ok-may_ask.ensures c.args.call)).1

pub request-requires-clause-live : goal.request-requires-clause-live
request-requires-clause-live c = (may-ask c.args.self.now.state c.args.txn c.args.call (c.in_ok-may_ask.ensures c.args.call)).0

pub returns : goal.returns
returns c = step-asked c.args.self.now.state c.request.new.self.state c.args.txn c.args.call c.request.result (c.in_ok-may_ask.ensures c.args.call) c.request.ensures.asked c.request.ensures.memory c.request.ensures.same
