use Rattle.std.proofs.Common.{◌<◌, ◌≤◌, ◌-◌, ◌++◌, ◌∷◌, [], Ok, length, sym, ap, subst, ◌∙◌, arith}
use Rattle.std.proofs.lemmas.List.{length-append}
use Rattle.ft_core.specs.States.{StoredState}
use Rattle.ft_core.specs.Reached.{IsReached}
use Rattle.ft_serial.specs.Serials.{committed_calls}
use Rattle.ft_serial.specs.Walks.{IsWalkOf, IsNext}
use Rattle.ft_serial.proofs.Taking.{few-given}
use Rattle.ft_serial.proofs.order.serial.Goals as goal

pub loop-calls-smaller : goal.loop-calls-smaller
loop-calls-smaller c =
    let core = c.args.core.now in
    let same = c.core.ensures in
    let given = c.loop-calls.calls.items in
    let walk = subst (λ r. IsNext 0 c.next.new.self core.state given r) (c.in_ok-call.was ∙ ap Ok c.in-Some.is)
    (subst (λ (k : StoredState). IsNext 0 c.next.new.self k.state given c.next.result) same
    (c.next.ensures.next given 0 (c.history.ensures.events ∙ ap (λ (k : StoredState). k.state.events) (sym same)) (subst (λ (k : StoredState). IsWalkOf 0 c.loop-calls.walk k.state given) (sym same) c.loop-calls.invariant))) in
    let few : length (given ++ c.in-Some.call ∷ []) ≤ length (committed_calls core.state) = few-given core (subst IsReached same c.next.ensures.reached) 0 c.next.new.self (given ++ c.in-Some.call ∷ []) walk in
    let longer = length-append given (c.in-Some.call ∷ []) in
    let pushed = ap length c.in_ok-push.ensures.items in
    let less : length (committed_calls core.state) - length c.push.new.self.items < length (committed_calls core.state) - length given = omega (arith, few, longer, pushed) in
    less
