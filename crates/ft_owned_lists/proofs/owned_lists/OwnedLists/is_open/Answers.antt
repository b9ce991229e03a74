use Rattle.std.proofs.Common.{◌∙◌, sym, ap}
use Rattle.std.specs.FinMap as finite
use Rattle.ft_owned_lists.proofs.ChainCalls.{open-is}
use Rattle.ft_owned_lists.proofs.owned_lists.OwnedLists.is_open.Goals as goal

pub returns : goal.returns
returns g c = c.contains.ensures ∙ sym (open-is c.self.inside.nodes c.self.inside.ends c.self.invariant c.args.owner) ∙ ap (λ m. finite.contains_key m c.args.owner) c.self.view_is
