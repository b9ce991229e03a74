use Rattle.std.proofs.Common.{None, get_or, ap, ◌∙◌}
use Rattle.std.specs.Option.{option_flatten}
use Rattle.ft_paged.proofs.Pages.{all-get}
use Rattle.ft_paged.proofs.Places.{found-at}
use Rattle.ft_paged.proofs.page.Page.get.Goals as goal

pub returns : goal.returns
returns g c =
    c.flatten.ensures ∙ ap option_flatten c.copied.ensures ∙ found-at c.deref.result.now c.args.place c.get.result c.get.ensures.lookup
    ∙ ap (λ xs. get_or xs c.args.place None) c.deref.ensures.value ∙ all-get c.self.inside.places.items c.args.place ∙ ap (λ xs. get_or xs c.args.place None) c.self.view_is
