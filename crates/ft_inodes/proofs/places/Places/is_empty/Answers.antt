use Rattle.std.proofs.Common.{◌≡◌, ◌==◌, ap, sym, length, ◌∙◌}
use Rattle.std.proofs.lemmas.List.{length-map}
use Rattle.std.specs.Cmp.Lexicographic.{nat_list_cmp_total}
use Rattle.std.specs.FinMap.{len}
use Rattle.ft_cells.proofs.MapViews.{none-view}
use Rattle.ft_inodes.specs.Named.{pair, pairs_in}
use Rattle.ft_inodes.proofs.places.Places.is_empty.Goals as goal

pub returns : goal.returns
returns c =
    let places = c.self.inside.places in
    c.is_empty.ensures ∙ ap (λ n. n == 0) (places.ok.0 ∙ sym (length-map places.items pair))
    ∙ none-view nat_list_cmp_total (pairs_in places.items) ∙ ap (λ m. len m == 0) c.self.view_is
