use Rattle.ft_core.specs.declared.request.Request.TheVariants.{Ask}
use Rattle.ft_core.specs.Fairness.{fair_rule}
use Rattle.ft_core.specs.Steps.{outcome_answer}
use Rattle.ft_core.proofs.Asked.{may-ask}
use Rattle.ft_core.proofs.Behind.{step-ask, step-refused-by}
use Rattle.ft_core.proofs.manager.Core.ask_behind.Goals as goal

pub returns-in_err-may_ask : goal.returns-in_err-may_ask
returns-in_err-may_ask c =
    step-refused-by (fair_rule c.args.ahead.now) c.args.self.now.state (Ask c.args.txn c.args.call) outcome_answer c.from_residual.result c.in_err-may_ask.field-0.0 c.from_residual.ensures.1 (c.in_err-may_ask.ensures c.args.call)

pub request_behind-requires-clause-few : goal.request_behind-requires-clause-few
request_behind-requires-clause-few c = (may-ask c.args.self.now.state c.args.txn c.args.call (c.in_ok-may_ask.ensures c.args.call)).1

pub request_behind-requires-clause-live : goal.request_behind-requires-clause-live
request_behind-requires-clause-live c = (may-ask c.args.self.now.state c.args.txn c.args.call (c.in_ok-may_ask.ensures c.args.call)).0

pub returns : goal.returns
returns c = let asked = c.request_behind in step-ask (fair_rule c.args.ahead.now) c.args.self.now.state asked.new.self.state c.args.txn c.args.call asked.result (c.in_ok-may_ask.ensures c.args.call) asked.ensures.asked asked.ensures.memory asked.ensures.same
