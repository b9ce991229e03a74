use Rattle.std.proofs.Common.{◌∙◌, ap, sym}
use Rattle.std.specs.FinMap as finite
use Rattle.ft_paged.specs.Paged.{numbered, joined_places}
use Rattle.ft_paged.proofs.PagedWalks.{entries-dense}
use Rattle.ft_paged.proofs.paged_map.PagedMap.entries.Goals as goal

pub returns : goal.returns
returns g c =
    ap (λ ps. numbered 0 (joined_places ps)) c.deref.ensures.value
    ∙ sym (entries-dense (joined_places c.self.inside.groups.items)) ∙ ap finite.entries c.self.view_is
