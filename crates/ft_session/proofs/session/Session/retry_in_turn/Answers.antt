use Rattle.std.proofs.Common.{◌≡◌, true, refl, sym, ap, subst}
use Rattle.ft_core.specs.declared.request.Request.TheVariants.{Retry}
use Rattle.ft_core.specs.Fairness.{fair_rule}
use Rattle.ft_core.specs.States.{State}
use Rattle.ft_core.specs.Steps.{IsStep, answer_with, outcome_answer}
use Rattle.ft_waits.specs.Behind.{AreAhead}
use Rattle.ft_session.specs.declared.session.Session.{Session}
use Rattle.ft_session.proofs.Turning.{turn-taken}
use Rattle.ft_session.proofs.session.Session.retry_in_turn.Goals as goal

pub returns-clause-turn : goal.returns-clause-turn
returns-clause-turn c =
    let s = c.args.self.now.core.state in let t = c.args.txn in
    let ahead = c.in_ok-ahead.ahead.items in
    let told = answer_with outcome_answer c.retry_behind-outcome.result in
    let are = subst (λ xs. AreAhead s xs t ahead) c.as_slice.ensures.value c.in_ok-ahead.ensures in
    let step = subst (λ xs. IsStep (fair_rule xs) s (Retry t) told c.retry_behind-outcome.new.self.state) c.as_slice-2.ensures.value c.retry_behind-outcome.ensures in
    let there = subst (λ (q : State). IsStep (fair_rule ahead) s (Retry t) told q) (sym (ap (λ (x : Session). x.core.state) c.take_turns.ensures.others)) step in
    turn-taken s c.take_turns.new.self.core.state c.args.self.now.turns.items c.take_turns.new.self.turns.items t (λ keeps. keeps ≡ true) (Retry t) true refl c.in_ok-turns.turns.items c.in_ok-turns.ensures ahead are c.retry_behind-outcome.result there c.take_turns.ensures.turns
