use Rattle.std.proofs.Common.{◌∙◌, sym, ap, refl, Some, None}
use Rattle.std.specs.Prelude.{drop, slice_get}
use Rattle.std.specs.FinMap as finite
use Rattle.ft_owned_lists.specs.OwnedLists.{list_in}
use Rattle.ft_owned_lists.proofs.ChainMoves.{pop-made, first-by}
use Rattle.ft_owned_lists.proofs.ChainCalls.{empty-list, made-in}
use Rattle.ft_owned_lists.proofs.owned_lists.OwnedLists.pop_front.Goals as goal

pub returns-in_err-get-clause-value : goal.returns-in_err-get-clause-value
returns-in_err-get-clause-value g c = c.from_residual.ensures ∙ sym (ap (λ xs. slice_get xs 0) (empty-list c.self.inside.nodes c.self.inside.ends c.self.invariant c.args.self.now c.self.view_is c.args.owner None (sym c.get.ensures ∙ c.in_err-get.was) refl))

pub returns-in_err-front-clause-value : goal.returns-in_err-front-clause-value
returns-in_err-front-clause-value g c =
    c.from_residual-in_err-front.ensures
    ∙ sym (ap (λ xs. slice_get xs 0) (empty-list c.self.inside.nodes c.self.inside.ends c.self.invariant c.args.self.now c.self.view_is c.args.owner _ (sym c.get.ensures ∙ c.in_ok-get.was) c.in_err-front.was))

pub invariant_of-self : goal.invariant_of-self
invariant_of-self g c =
    let there = sym c.get.ensures ∙ c.in_ok-get.was ∙ ap Some c.in_ok-front.was in
    let at = sym c.try_remove.ensures.value ∙ c.unwrap-value.ensures in
    let made = pop-made c.self.inside.nodes c.try_remove.new.self c.self.inside.ends c.self.invariant.0 c.self.invariant.1 c.args.owner c.in_ok-front.front c.unwrap-value.result _ there at c.try_remove.ensures.updates c.from_node.ensures in
    (made-in _ _ _ _ c.set.ensures made).sound

pub returns-clause-value : goal.returns-clause-value
returns-clause-value g c =
    let there = sym c.get.ensures ∙ c.in_ok-get.was ∙ ap Some c.in_ok-front.was in
    let at = sym c.try_remove.ensures.value ∙ c.unwrap-value.ensures in
    sym (ap (λ m. slice_get (list_in m c.args.owner) 0) (sym c.self.view_is) ∙ first-by c.self.inside.nodes c.self.inside.nodes c.self.inside.ends c.self.invariant.0 c.self.invariant.1 c.args.owner c.in_ok-front.front c.unwrap-value.result there at)

pub returns-clause-some : goal.returns-clause-some
returns-clause-some g c =
    let there = sym c.get.ensures ∙ c.in_ok-get.was ∙ ap Some c.in_ok-front.was in
    let at = sym c.try_remove.ensures.value ∙ c.unwrap-value.ensures in
    let made = pop-made c.self.inside.nodes c.try_remove.new.self c.self.inside.ends c.self.invariant.0 c.self.invariant.1 c.args.owner c.in_ok-front.front c.unwrap-value.result _ there at c.try_remove.ensures.updates c.from_node.ensures in
    (made-in _ _ _ _ c.set.ensures made).is ∙ ap (λ m. finite.insert m c.args.owner (drop 1 (list_in m c.args.owner))) c.self.view_is
