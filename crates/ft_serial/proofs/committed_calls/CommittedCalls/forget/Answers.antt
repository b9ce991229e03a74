use Rattle.std.proofs.Common.{List, length, refl, sym, ap, subst, ◌∙◌}
use Rattle.ft_core.specs.declared.request.Event.{Event}
use Rattle.ft_core.specs.States.{StoredState}
use Rattle.ft_record.specs.Recent.{forgotten_by}
use Rattle.ft_serial.specs.declared.walk.Walk.{Walk}
use Rattle.ft_serial.specs.CommittedCalls.{GoneOver, passed_by, given_by}
use Rattle.ft_serial.specs.Walks.{IsWalk}
use Rattle.ft_serial.proofs.Committing.{walk-forgot, seen-again}
use Rattle.ft_serial.proofs.committed_calls.CommittedCalls.forget.Goals as goal

pub invariant_of-self : goal.invariant_of-self
invariant_of-self c =
    let i = c.self.inside in
    let new : Walk = record i.walk { passed = 0 } in
    let before : List Event = passed_by i.walk i.since i.seen in
    let all = ap (λ (v : GoneOver). v.events) c.self.view_is ∙ c.requires in
    let then = seen-again c.of.result.value c.of-2.result.value c.args.core.now c.of.ensures c.of-2.ensures in
    let gone = length c.of.result.value.state.events in
    subst (λ (es : List Event). IsWalk gone new es (given_by new es)) (all ∙ sym then)
    (walk-forgot (forgotten_by i.since) gone i.walk new before (given_by i.walk before) c.self.invariant
    (ap (λ (k : StoredState). length k.state.events) c.of.ensures ∙ ap length (sym all)) refl refl refl refl)

pub returns-clause-events : goal.returns-clause-events
returns-clause-events c = seen-again c.of.result.value c.of-2.result.value c.args.core.now c.of.ensures c.of-2.ensures ∙ sym c.requires

pub returns-clause-given : goal.returns-clause-given
returns-clause-given c =
    let i = c.self.inside in
    let all = ap (λ (v : GoneOver). v.events) c.self.view_is ∙ c.requires in
    ap (given_by i.walk) (seen-again c.of.result.value c.of-2.result.value c.args.core.now c.of.ensures c.of-2.ensures ∙ sym all) ∙ ap (λ (v : GoneOver). v.given) c.self.view_is
