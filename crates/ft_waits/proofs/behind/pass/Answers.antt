use Rattle.std.proofs.Common.{◌∙◌, ℕ, Bool, List, arith, refl, sym, ap, subst}
use Rattle.std.proofs.lemmas.List.{nil_from_length}
use Rattle.std.specs.FinMap as finite
use Rattle.std.specs.Vec.Iter.{into_iter_items}
use Rattle.ft_waits.specs.declared.edge.Edge.{Edge}
use Rattle.ft_waits.proofs.Passing.{IsSoFar, none-passed, found-passed, left-passed, all-passed}
use Rattle.ft_waits.proofs.behind.pass.Goals as goal

pub loop-edge-init : goal.loop-edge-init
loop-edge-init c =
    let old : ℕ → Bool = λ u. finite.contains_key c.args.found.now u in
    subst (λ (es : List Edge). IsSoFar c.args.rest.items es c.new-left.result.items old old) (sym c.into_iter-edge-iterator.ensures.into_iter_gives.0) (none-passed c.args.rest.items c.new-left.result.items old c.new-left.ensures.items)

pub returns : goal.returns
returns c =
    let l = c.loop-edge in
    all-passed c.args.rest.items (into_iter_items l.edge-iterator) l.left.items (λ u. finite.contains_key c.args.found.now u) (λ u. finite.contains_key l.found u) (nil_from_length (into_iter_items l.edge-iterator) (let none = c.in-None.ensures.steps.0 in omega arith)) l.invariant

pub loop-edge-preserved-then-contains : goal.loop-edge-preserved-then-contains
loop-edge-preserved-then-contains c =
    let l = c.loop-edge in
    let edge = c.in-Some.edge in
    let more = into_iter_items c.next.new.self in
    let so_far = subst (λ (es : List Edge). IsSoFar c.args.rest.items es l.left.items (λ u. finite.contains_key c.args.found.now u) (λ u. finite.contains_key l.found u)) c.in-Some.ensures.steps.0 l.invariant in
    found-passed c.args.rest.items more edge l.left.items (λ u. finite.contains_key c.args.found.now u) (λ u. finite.contains_key l.found u) so_far l.found c.insert.new.self (λ u. refl) (c.in_ok-insert.ensures.ok ∙ ap (λ (e : Edge). finite.insert l.found e.from tt) c.edge.view_is) (sym (c.contains.ensures ∙ ap (λ (e : Edge). finite.contains_key l.found e.to) c.edge.view_is) ∙ c.if-contains.true)

pub loop-edge-preserved : goal.loop-edge-preserved
loop-edge-preserved c =
    let l = c.loop-edge in
    let edge = c.in-Some.edge in
    let more = into_iter_items c.next.new.self in
    let so_far = subst (λ (es : List Edge). IsSoFar c.args.rest.items es l.left.items (λ u. finite.contains_key c.args.found.now u) (λ u. finite.contains_key l.found u)) c.in-Some.ensures.steps.0 l.invariant in
    left-passed c.args.rest.items more edge l.left.items (λ u. finite.contains_key c.args.found.now u) (λ u. finite.contains_key l.found u) so_far c.push.new.self.items c.in_ok-push.ensures.items (sym (c.contains.ensures ∙ ap (λ (e : Edge). finite.contains_key l.found e.to) c.edge.view_is) ∙ c.if-contains.false)
