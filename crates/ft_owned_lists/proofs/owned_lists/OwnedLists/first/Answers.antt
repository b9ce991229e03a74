use Rattle.std.proofs.Common.{◌∙◌, sym, ap, refl, Some, None}
use Rattle.std.specs.Prelude.{slice_get}
use Rattle.std.specs.Option.{option_copied}
use Rattle.ft_owned_lists.specs.OwnedLists.{list_in}
use Rattle.ft_owned_lists.proofs.ChainMoves.{first-by}
use Rattle.ft_owned_lists.proofs.ChainCalls.{empty-list, shared}
use Rattle.ft_owned_lists.proofs.owned_lists.OwnedLists.first.Goals as goal

pub returns-in_err-get : goal.returns-in_err-get
returns-in_err-get g c = ap option_copied c.from_residual.ensures ∙ sym (ap (λ xs. slice_get xs 0) (empty-list c.self.inside.nodes c.self.inside.ends c.self.invariant c.args.self.now c.self.view_is c.args.owner None (sym c.get.ensures ∙ c.in_err-get.was) refl))

pub returns-in_err-ends : goal.returns-in_err-ends
returns-in_err-ends g c = ap option_copied c.from_residual-in_err-ends.ensures ∙ sym (ap (λ xs. slice_get xs 0) (empty-list c.self.inside.nodes c.self.inside.ends c.self.invariant c.args.self.now c.self.view_is c.args.owner _ (sym c.get.ensures ∙ c.in_ok-get.was) c.in_err-ends.was))

pub returns : goal.returns
returns g c =
    let there = sym c.get.ensures ∙ c.in_ok-get.was ∙ ap Some c.in_ok-ends.was in
    let at = shared c.get-2.result c.in_ok-node.node _ c.get-2.ensures c.in_ok-node.was in
    sym (ap (λ m. slice_get (list_in m c.args.owner) 0) (sym c.self.view_is) ∙ first-by c.self.inside.nodes c.self.inside.nodes c.self.inside.ends c.self.invariant.0 c.self.invariant.1 c.args.owner c.in_ok-ends.ends c.in_ok-node.node.now there at)
