use Rattle.std.proofs.Common.{◌∙◌, ◌∷◌, sym, ap, refl, inr}
use Rattle.std.specs.Prelude.{drop, slice_get}
use Rattle.std.specs.Option.{option_copied_mut, option_flatten}
use Rattle.std.specs.FinMap as finite
use Rattle.ft_owned_lists.specs.OwnedLists.{list_in}
use Rattle.ft_base.proofs.Loans.{same_writes}
use Rattle.ft_owned_lists.proofs.ChainMoves.{first-by}
use Rattle.ft_owned_lists.proofs.ChainCalls.{flat-some, flat-or, empty-list, set-first}
use Rattle.ft_owned_lists.proofs.owned_lists.OwnedLists.first_mut.Goals as goal

pub returns-in_default : goal.returns-in_default
returns-in_default g c =
    let none = sym (flat-or (finite.get c.self.inside.ends c.args.owner)) ∙ sym (c.flatten.ensures ∙ ap option_flatten c.get.ensures) ∙ c.in_default.is in
    (ap inr c.self.view_is, record { writes_back = tt; value = sym (ap (λ xs. slice_get xs 0) (empty-list c.self.inside.nodes c.self.inside.ends c.self.invariant c.args.self.now c.self.view_is c.args.owner _ refl none)) })

pub invariant_of-self-lent : goal.invariant_of-self-lent
invariant_of-self-lent g c w =
    let there = flat-some _ _ (sym (c.flatten.ensures ∙ ap option_flatten c.get.ensures) ∙ c.in-Some.is) in
    let at = sym c.get_mut.ensures.value ∙ ap option_copied_mut c.unwrap-node.ensures in
    (set-first c.self.inside.nodes c.self.inside.ends c.self.invariant c.args.owner c.in-Some.front c.unwrap-node.result.now w there at).sound

pub returns : goal.returns
returns g c =
    let there = flat-some _ _ (sym (c.flatten.ensures ∙ ap option_flatten c.get.ensures) ∙ c.in-Some.is) in
    let at = sym c.get_mut.ensures.value ∙ ap option_copied_mut c.unwrap-node.ensures in (
      same_writes _ _ _ (λ w. (set-first c.self.inside.nodes c.self.inside.ends c.self.invariant c.args.owner c.in-Some.front c.unwrap-node.result.now w there at).is
          ∙ ap (λ m. finite.insert m c.args.owner (w ∷ drop 1 (list_in m c.args.owner))) c.self.view_is),
      record { writes_back = tt; value = sym (ap (λ m. slice_get (list_in m c.args.owner) 0) (sym c.self.view_is) ∙ first-by c.self.inside.nodes c.self.inside.nodes c.self.inside.ends c.self.invariant.0 c.self.invariant.1 c.args.owner c.in-Some.front c.unwrap-node.result.now there at) },
    )
