use Rattle.std.proofs.Common.{◌∙◌, ap, sym}
use Rattle.std.specs.FinMap as finite
use Rattle.ft_paged.specs.Paged.{joined_places}
use Rattle.ft_paged.proofs.PagedWalks.{len-dense}
use Rattle.ft_paged.proofs.paged_map.PagedMap.len.Goals as goal

pub returns : goal.returns
returns g c = c.self.invariant.counted ∙ sym (len-dense (joined_places c.self.inside.groups.items)) ∙ ap finite.len c.self.view_is
