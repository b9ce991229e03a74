use Rattle.ft_core.specs.declared.request.Request.TheVariants.{Ask}
use Rattle.ft_core.specs.FullOutcomes.{full_answer}
use Rattle.ft_core.proofs.Asked.{may-ask, step-in-full, told-in-full}
use Rattle.ft_core.proofs.Refusing.{step-refused}
use Rattle.ft_core.proofs.manager.Core.ask_in_full.Goals as goal

pub returns-in_err-may_ask-clause-step : goal.returns-in_err-may_ask-clause-step
returns-in_err-may_ask-clause-step c =
    step-refused c.args.self.now.state (Ask c.args.txn c.args.call) full_answer c.from_residual.result c.in_err-may_ask.field-0.0 c.from_residual.ensures.1 (c.in_err-may_ask.ensures c.args.call)

pub request_in_full-requires-clause-few : goal.request_in_full-requires-clause-few
request_in_full-requires-clause-few c = (may-ask c.args.self.now.state c.args.txn c.args.call (c.in_ok-may_ask.ensures c.args.call)).1

pub request_in_full-requires-clause-live : goal.request_in_full-requires-clause-live
request_in_full-requires-clause-live c = (may-ask c.args.self.now.state c.args.txn c.args.call (c.in_ok-may_ask.ensures c.args.call)).0

pub returns-clause-step : goal.returns-clause-step
returns-clause-step c =
    let asked = c.request_in_full in
    step-in-full c.args.self.now.state asked.new.self.state c.args.txn c.args.call asked.result (c.in_ok-may_ask.ensures c.args.call) asked.ensures.asked asked.ensures.memory asked.ensures.same

pub returns-clause-told : goal.returns-clause-told
returns-clause-told c = let asked = c.request_in_full in told-in-full c.args.self.now.state asked.new.self.state c.args.txn c.args.call asked.result asked.ensures.asked
