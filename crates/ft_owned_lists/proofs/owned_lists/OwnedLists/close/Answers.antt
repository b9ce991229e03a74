use Rattle.std.proofs.Common.{◌∙◌, sym, ap, subst}
use Rattle.std.specs.FinMap as finite
use Rattle.ft_owned_lists.specs.OwnedLists.{list_in}
use Rattle.ft_owned_lists.specs.Linked.{lists_of}
use Rattle.ft_owned_lists.proofs.ChainMoves.{Made}
use Rattle.ft_owned_lists.proofs.ChainCalls.{closed}
use Rattle.ft_owned_lists.proofs.owned_lists.OwnedLists.close.Goals as goal

pub invariant_of-self : goal.invariant_of-self
invariant_of-self g c =
    let made = closed c.self.inside.nodes c.self.inside.ends c.self.invariant c.args.owner (ap (λ m. list_in m c.args.owner) c.self.view_is ∙ c.requires) in
    (subst (λ e. Made c.self.inside.nodes e (finite.remove (lists_of c.self.inside.nodes c.self.inside.ends) c.args.owner)) (sym c.remove.ensures) made).sound

pub returns : goal.returns
returns g c =
    let made = closed c.self.inside.nodes c.self.inside.ends c.self.invariant c.args.owner (ap (λ m. list_in m c.args.owner) c.self.view_is ∙ c.requires) in
    (subst (λ e. Made c.self.inside.nodes e (finite.remove (lists_of c.self.inside.nodes c.self.inside.ends) c.args.owner)) (sym c.remove.ensures) made).is ∙ ap (λ m. finite.remove m c.args.owner) c.self.view_is
