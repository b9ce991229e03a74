use Rattle.std.proofs.Common.{◌≡◌, Some, subst}
use Rattle.ft_posix.specs.declared.call.Call.{Call}
use Rattle.ft_core.specs.declared.request.Request.TheVariants.{Ask}
use Rattle.ft_core.specs.States.{StoredState}
use Rattle.ft_core.specs.Steps.{IsStep, exact_rule, answer_with, outcome_answer, refusal_of}
use Rattle.ft_record.specs.Recent.{Remembered}
use Rattle.ft_record.proofs.Records.{step-due, step-wanting}
use Rattle.ft_record.proofs.recent.Recent.ask_copy.Goals as goal

pub returns-clause-step : goal.returns-clause-step
returns-clause-step c = subst (λ (x : Call). IsStep exact_rule c.args.self.now.core.state (Ask c.args.txn x) (answer_with outcome_answer c.ask.result) c.ask.new.self.core.state) c.in_ok-copy.ensures c.ask.ensures.step

pub returns-in_err-may_ask-clause-step : goal.returns-in_err-may_ask-clause-step
returns-in_err-may_ask-clause-step c =
    let now : StoredState = c.args.self.now.core in
    step-due outcome_answer now.state (Ask c.args.txn c.args.call.now) c.in_err-may_ask.field-0.0 c.from_residual.result
    (subst (λ (v : Remembered). refusal_of v.core.state (Ask c.args.txn c.args.call.now) ≡ Some c.in_err-may_ask.field-0.0) c.self.view_is (c.in_err-may_ask.ensures c.args.call.now)) c.from_residual.ensures.1

pub returns-in_err-copy-clause-step : goal.returns-in_err-copy-clause-step
returns-in_err-copy-clause-step c =
    let i = c.self.inside in
    subst (λ (v : Remembered). IsStep exact_rule v.core.state (Ask c.args.txn c.args.call.now) (answer_with outcome_answer c.from_residual-in_err-copy.result) v.core.state) c.self.view_is
    (step-wanting outcome_answer i.core.state (Ask c.args.txn c.args.call.now) c.from_residual-in_err-copy.result (c.in_ok-may_ask.ensures c.args.call.now) tt c.from_residual-in_err-copy.ensures.1)
