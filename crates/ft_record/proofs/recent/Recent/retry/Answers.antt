use Rattle.std.proofs.Common.{sym, ap, subst}
use Rattle.ft_core.specs.declared.request.Outcome.{Outcome}
use Rattle.ft_core.specs.declared.request.Request.TheVariants as request
use Rattle.ft_core.proofs.Known.{call_laws, lock_laws}
use Rattle.ft_record.specs.Recent.{Remembered, forgotten_by}
use Rattle.ft_record.specs.Recording.{Recording}
use Rattle.ft_core.specs.Steps.{IsStep, exact_rule, outcome_answer}
use Rattle.ft_record.proofs.Records.{has-reply, recent-refused, recent-retried}
use Rattle.ft_record.proofs.recent.Recent.retry.Goals as goal

pub invariant_of-self-in_err-outcome : goal.invariant_of-self-in_err-outcome
invariant_of-self-in_err-outcome c =
    let i = c.self.inside in
    recent-refused i.core.state c.retry_in_full.new.self.state (request.Retry c.args.txn) c.in_err-outcome.field-0.0 i.past (forgotten_by i.since) c.self.invariant c.in_err-outcome.ensures.step c.reserve.new.self
    (ap (λ (q : Recording). q.events) c.reserve.ensures.same) (ap (λ (q : Recording). q.spare) c.reserve.ensures.same)

pub add_outcome-requires-clause-twice : goal.add_outcome-requires-clause-twice
add_outcome-requires-clause-twice c = let told = c.in_ok-outcome.ensures.told in has-reply c.self.inside.core.state told.0 c.in_ok-outcome.outcome told.2

pub invariant_of-self-2 : goal.invariant_of-self-2
invariant_of-self-2 c =
    let i = c.self.inside in
    recent-retried call_laws lock_laws i.core.state c.args.txn c.in_ok-outcome.outcome c.retry_in_full.new.self.state i.past (forgotten_by i.since) c.self.invariant
    c.in_ok-outcome.ensures.step c.in_ok-outcome.ensures.told c.reserve.new.self c.reserve.ensures.same c.add_outcome.new.self c.add_outcome.ensures.told

pub returns-clause-step : goal.returns-clause-step
returns-clause-step c =
    subst (λ (v : Remembered). IsStep exact_rule v.core.state (request.Retry c.args.txn) (outcome_answer c.add_outcome.result) c.retry_in_full.new.self.state) c.self.view_is
    (subst (λ (o : Outcome). IsStep exact_rule c.self.inside.core.state (request.Retry c.args.txn) (outcome_answer o) c.retry_in_full.new.self.state) (sym c.add_outcome.ensures.outcome) c.in_ok-outcome.ensures.step)
