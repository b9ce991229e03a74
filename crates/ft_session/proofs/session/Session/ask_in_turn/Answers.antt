use Rattle.std.proofs.Common.{◌≡◌, ◌↔◌, ℕ, Bool, true, Some, sym, ap, subst}
use Rattle.std.specs.FinMap as finite
use Rattle.ft_posix.specs.declared.call.Call.{Call}
use Rattle.ft_core.specs.declared.request.Request.TheVariants.{Ask}
use Rattle.ft_core.specs.Fairness.{fair_rule}
use Rattle.ft_core.specs.States.{State}
use Rattle.ft_core.specs.Steps.{IsStep, answer_with, outcome_answer}
use Rattle.ft_waits.specs.Behind.{AreAhead}
use Rattle.ft_session.specs.declared.session.Session.{Session}
use Rattle.ft_session.proofs.Turning.{turn-refused, turn-taken, turn-wanting}
use Rattle.ft_session.proofs.session.Session.ask_in_turn.Goals as goal

abbrev Kept : State → ℕ → Call → Bool → Type 0
Kept s t call keeps = (keeps ≡ true) ↔ (finite.get s.asks t ≡ Some call)

pub returns-in_err-may_ask-clause-turn : goal.returns-in_err-may_ask-clause-turn
returns-in_err-may_ask-clause-turn c =
    let s = c.args.self.now.core.state in
    turn-refused s c.args.self.now.turns.items c.args.txn (Kept s c.args.txn c.args.call) (Ask c.args.txn c.args.call) c.from_residual.result c.in_err-may_ask.field-0.0 c.from_residual.ensures.1 (c.in_err-may_ask.ensures c.args.call)

pub returns-in_err-turns-clause-turn : goal.returns-in_err-turns-clause-turn
returns-in_err-turns-clause-turn c =
    let s = c.args.self.now.core.state in
    turn-wanting s c.args.self.now.turns.items c.args.txn (Kept s c.args.txn c.args.call) (Ask c.args.txn c.args.call) c.from_residual-in_err-turns.result c.from_residual-in_err-turns.ensures.1 (c.in_ok-may_ask.ensures c.args.call) tt

pub returns-in_err-ahead-clause-turn : goal.returns-in_err-ahead-clause-turn
returns-in_err-ahead-clause-turn c =
    let s = c.args.self.now.core.state in
    turn-wanting s c.args.self.now.turns.items c.args.txn (Kept s c.args.txn c.args.call) (Ask c.args.txn c.args.call) c.from_residual-in_err-ahead.result c.from_residual-in_err-ahead.ensures.1 (c.in_ok-may_ask.ensures c.args.call) tt

pub returns-clause-turn : goal.returns-clause-turn
returns-clause-turn c =
    let s = c.args.self.now.core.state in let t = c.args.txn in
    let later = c.in_ok-turns.turns.items in
    let ahead = c.in_ok-ahead.ahead.items in
    let told = answer_with outcome_answer c.ask_behind-outcome.result in
    let are = subst (λ xs. AreAhead s xs t ahead) c.as_slice.ensures.value c.in_ok-ahead.ensures in
    let step = subst (λ xs. IsStep (fair_rule xs) s (Ask t c.args.call) told c.ask_behind-outcome.new.self.state) c.as_slice-2.ensures.value c.ask_behind-outcome.ensures in
    let there = subst (λ (q : State). IsStep (fair_rule ahead) s (Ask t c.args.call) told q) (sym (ap (λ (x : Session). x.core.state) c.take_turns.ensures.others)) step in
    turn-taken s c.take_turns.new.self.core.state c.args.self.now.turns.items c.take_turns.new.self.turns.items t (Kept s t c.args.call) (Ask t c.args.call) c.is_waiting_for-keeps.result c.is_waiting_for-keeps.ensures later c.in_ok-turns.ensures ahead are c.ask_behind-outcome.result there c.take_turns.ensures.turns
