use Rattle.std.proofs.Common.{◌≡◌, ◌+◌, ◌-◌, ◌<◌, ◌∙◌, length, get_or, vec_len, sym, ap, subst, arith}
use Rattle.ft_inodes.specs.declared.place.Place.{Place}
use Rattle.ft_inodes.specs.Named.{names_in, IsSwapped}
use Rattle.ft_inodes.proofs.Mapped.{swapped_by, swapped-map, no_place, length_swapped}
use Rattle.ft_inodes.proofs.places.take_out.Goals as goal

pub returns : goal.returns
returns c =
    let old = c.args.places.now.items in
    let new = c.swap_remove.new.self.items in
    let count = c.args.places.now.ok.0 in
    let within = c.requires.within in
    let swapped : IsSwapped old new c.args.at = swapped_by old new c.args.at no_place
    (length_swapped old new c.args.at c.swap_remove.result within c.swap_remove.ensures.items)
    (λ lt. c.swap_remove.ensures.by_index.0 no_place (omega arith) ∙ ap (λ n. get_or old (n - 1) no_place) count)
    (λ k other lt. c.swap_remove.ensures.by_index.1 k no_place other (omega arith))
    within in
    let names = swapped-map (λ (p : Place). p.name) old new c.args.at swapped in
    record {
      kept = c.forget.ensures (names_in new) (subst (λ places. IsSwapped (names_in places) (names_in new) c.args.at) (sym c.deref.ensures.value) names);
      swapped = swapped;
    }
