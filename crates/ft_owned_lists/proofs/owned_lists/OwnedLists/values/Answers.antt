use Rattle.std.proofs.Common.{◌∙◌, ap, refl}
use Rattle.std.specs.Option.{option_flatten}
use Rattle.std.specs.FinMap as finite
use Rattle.ft_owned_lists.specs.Linked.{first_of}
use Rattle.ft_owned_lists.proofs.ChainCalls.{flat-or}
use Rattle.ft_owned_lists.proofs.ChainWalks.{walk-list}
use Rattle.ft_owned_lists.proofs.owned_lists.OwnedLists.values.Goals as goal

pub returns : goal.returns
returns g c =
    walk-list c.self.inside.nodes c.self.inside.ends c.self.invariant c.args.self.now c.self.view_is c.args.owner (finite.get c.self.inside.ends c.args.owner) refl c.first_key.result
    (c.first_key.ensures ∙ ap first_of (c.flatten.ensures ∙ ap option_flatten c.get.ensures ∙ flat-or (finite.get c.self.inside.ends c.args.owner)))
