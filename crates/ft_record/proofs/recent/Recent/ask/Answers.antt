use Rattle.std.proofs.Common.{◌≡◌, Some, sym, ap, subst}
use Rattle.ft_core.specs.declared.request.Outcome.{Outcome}
use Rattle.ft_core.specs.declared.request.Request.TheVariants as request
use Rattle.ft_core.specs.States.{StoredState}
use Rattle.ft_core.proofs.Known.{call_laws, lock_laws}
use Rattle.ft_record.specs.Recent.{Remembered, forgotten_by}
use Rattle.ft_record.specs.Recording.{Recording}
use Rattle.ft_core.specs.Steps.{IsStep, exact_rule, answer_with, outcome_answer, refusal_of}
use Rattle.ft_record.proofs.Records.{has-reply, step-due, step-wanting, recent-refused, recent-asked}
use Rattle.ft_record.proofs.recent.Recent.ask.Goals as goal

pub invariant_of-self-in_err-outcome : goal.invariant_of-self-in_err-outcome
invariant_of-self-in_err-outcome c =
    let i = c.self.inside in
    recent-refused i.core.state c.ask_in_full.new.self.state (request.Ask c.args.txn c.args.call) c.in_err-outcome.field-0.0 i.past (forgotten_by i.since) c.self.invariant c.in_err-outcome.ensures.step c.reserve.new.self
    (ap (λ (q : Recording). q.events) c.reserve.ensures.same) (ap (λ (q : Recording). q.spare) c.reserve.ensures.same)

pub add_outcome-requires-clause-twice : goal.add_outcome-requires-clause-twice
add_outcome-requires-clause-twice c = has-reply c.self.inside.core.state c.args.call c.in_ok-outcome.outcome c.in_ok-outcome.ensures.told

pub invariant_of-self-2 : goal.invariant_of-self-2
invariant_of-self-2 c =
    let i = c.self.inside in
    recent-asked call_laws lock_laws i.core.state c.args.txn c.args.call c.in_ok-outcome.outcome c.ask_in_full.new.self.state i.past (forgotten_by i.since) c.self.invariant
    c.in_ok-outcome.ensures.step c.in_ok-outcome.ensures.told c.reserve.new.self c.reserve.ensures.same c.add_outcome.new.self c.add_outcome.ensures.told

pub returns-clause-step : goal.returns-clause-step
returns-clause-step c =
    subst (λ (v : Remembered). IsStep exact_rule v.core.state (request.Ask c.args.txn c.args.call) (outcome_answer c.add_outcome.result) c.ask_in_full.new.self.state) c.self.view_is
    (subst (λ (o : Outcome). IsStep exact_rule c.self.inside.core.state (request.Ask c.args.txn c.args.call) (outcome_answer o) c.ask_in_full.new.self.state) (sym c.add_outcome.ensures.outcome) c.in_ok-outcome.ensures.step)

pub returns-in_err-may_ask-clause-step : goal.returns-in_err-may_ask-clause-step
returns-in_err-may_ask-clause-step c =
    let now : StoredState = c.args.self.now.core in
    step-due outcome_answer now.state (request.Ask c.args.txn c.args.call) c.in_err-may_ask.field-0.0 c.from_residual.result
    (subst (λ (v : Remembered). refusal_of v.core.state (request.Ask c.args.txn c.args.call) ≡ Some c.in_err-may_ask.field-0.0) c.self.view_is (c.in_err-may_ask.ensures c.args.call)) c.from_residual.ensures.1

pub returns-in_err-reserve-clause-step : goal.returns-in_err-reserve-clause-step
returns-in_err-reserve-clause-step c =
    let i = c.self.inside in
    subst (λ (v : Remembered). IsStep exact_rule v.core.state (request.Ask c.args.txn c.args.call) (answer_with outcome_answer c.from_residual-in_err-reserve.result) i.core.state) c.self.view_is
    (step-wanting outcome_answer i.core.state (request.Ask c.args.txn c.args.call) c.from_residual-in_err-reserve.result (c.in_ok-may_ask.ensures c.args.call) tt c.from_residual-in_err-reserve.ensures.1)
