use Rattle.std.proofs.Common.{◌∙◌, arith, eqb-true, sym, ap}
use Rattle.std.proofs.lemmas.List.{nil_from_length}
use Rattle.std.specs.FinMap as finite
use Rattle.std.proofs.lemmas.Option.{same_Some}
use Rattle.ft_posix.specs.declared.call.Call.{Call}
use Rattle.ft_core.specs.Fairness.{fair_rule}
use Rattle.ft_core.specs.Journals.{asked_for}
use Rattle.ft_core.specs.States.{State, accesses_now}
use Rattle.ft_core.proofs.Behind.{fair-exact, fair-none, fairly-if}
use Rattle.ft_core.proofs.Gathered.{state-is}
use Rattle.ft_core.proofs.manager.Core.request_behind.Goals as goal

pub returns-then-is_empty-clause-asked : goal.returns-then-is_empty-clause-asked
returns-then-is_empty-clause-asked c =
    let s = c.args.self.now.state in let t = c.args.txn in
    let empty = nil_from_length c.args.ahead.now (let none = eqb-true _ 0 (sym c.if-is_empty.ensures) in omega arith) in
    fairly-if c.args.ahead.now s c.request.new.self.state t c.args.asked c.request.result
    (λ call is. ap (λ xs. fair_rule xs s t (accesses_now s call)) empty ∙ fair-exact s t (accesses_now s call))
    c.request.ensures.asked

pub returns-then-is_empty-2-clause-asked : goal.returns-then-is_empty-2-clause-asked
returns-then-is_empty-2-clause-asked c =
    let s = c.args.self.now.state in let t = c.args.txn in
    let ahead = c.args.ahead.now in
    let wanted = c.wanted-call.result.now in
    let empty = nil_from_length c.in_ok-blockers.blockers.items (let none = eqb-true _ 0 (sym c.if-is_empty-2.ensures) in omega arith) in
    let asked = ap (λ (q : State). asked_for c.args.asked (finite.get q.asks t)) (sym (state-is c.self.view_is)) ∙ c.wanted-call.ensures in
    let none = sym c.in_ok-blockers.ensures ∙ empty in
    let again = c.request-then-is_empty-2 in
    fairly-if ahead s again.new.self.state t c.args.asked again.result
    (λ call is. fair-none ahead s t (accesses_now s call) (ap (λ (x : Call). fair_rule ahead s t (accesses_now s x)) (sym (same_Some wanted call (sym asked ∙ is))) ∙ none))
    again.ensures.asked
