use Rattle.std.proofs.Common.{subst}
use Rattle.ft_posix.specs.declared.call.Call.{Call}
use Rattle.ft_core.specs.declared.request.Request.TheVariants.{Ask}
use Rattle.ft_core.specs.Steps.{IsStep, exact_rule, answer_with, outcome_answer}
use Rattle.ft_core.proofs.Asked.{may-ask, step-wanting, step-asked}
use Rattle.ft_core.proofs.Refusing.{step-refused}
use Rattle.ft_core.proofs.manager.Core.ask_copy.Goals as goal

pub returns-in_err-may_ask : goal.returns-in_err-may_ask
returns-in_err-may_ask c =
    step-refused c.args.self.now.state (Ask c.args.txn c.args.call.now) outcome_answer c.from_residual.result c.in_err-may_ask.field-0.0 c.from_residual.ensures.1 (c.in_err-may_ask.ensures c.args.call.now)

pub returns-in_err-copy : goal.returns-in_err-copy
returns-in_err-copy c =
    step-wanting c.args.self.now.state c.args.txn c.args.call.now c.from_residual-in_err-copy.result (c.in_ok-may_ask.ensures c.args.call.now) c.from_residual-in_err-copy.ensures.1

pub request-requires-clause-few : goal.request-requires-clause-few
request-requires-clause-few c = (may-ask c.args.self.now.state c.args.txn c.args.call.now (c.in_ok-may_ask.ensures c.args.call.now)).1

pub request-requires-clause-live : goal.request-requires-clause-live
request-requires-clause-live c = (may-ask c.args.self.now.state c.args.txn c.args.call.now (c.in_ok-may_ask.ensures c.args.call.now)).0

pub returns : goal.returns
returns c =
    subst (λ (x : Call). IsStep exact_rule c.args.self.now.state (Ask c.args.txn x) (answer_with outcome_answer c.request.result) c.request.new.self.state) c.in_ok-copy.ensures
    (step-asked c.args.self.now.state c.request.new.self.state c.args.txn c.in_ok-copy.copy c.request.result (c.in_ok-may_ask.ensures c.in_ok-copy.copy) c.request.ensures.asked c.request.ensures.memory c.request.ensures.same)
