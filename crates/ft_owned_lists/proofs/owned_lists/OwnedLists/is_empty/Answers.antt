use Rattle.std.proofs.Common.{◌∙◌, sym, ap, is_some, refl}
use Rattle.std.specs.Option.{option_flatten}
use Rattle.std.specs.FinMap as finite
use Rattle.ft_owned_lists.proofs.ChainCalls.{emptiness}
use Rattle.ft_owned_lists.proofs.owned_lists.OwnedLists.is_empty.Goals as goal

pub returns : goal.returns
returns g c =
    emptiness c.self.inside.nodes c.self.inside.ends c.self.invariant c.args.self.now c.self.view_is c.args.owner (finite.get c.self.inside.ends c.args.owner) refl c.is_none.result
    (sym (ap is_some (c.flatten.ensures ∙ ap option_flatten c.get.ensures)) ∙ c.is_none.ensures)
