use Rattle.std.proofs.Common.{◌<◌, [], None, length, get_or, arith, sym, ap, ◌∙◌}
use Rattle.std.proofs.lemmas.Bool.{ltb-true, ltb-false}
use Rattle.std.proofs.lemmas.List.{get_or_default}
use Rattle.std.specs.FinMap as finite
use Rattle.ft_paged.proofs.Maps.{map-get, map-none}
use Rattle.ft_paged.proofs.paged_map.PagedMap.get.Goals as goal

pub returns-in_err-get : goal.returns-in_err-get
returns-in_err-get g c =
    let past = ltb-false c.spot_of-spot.result.group (length c.deref.result.now) (sym c.in_err-get.ensures.lookup.0) in let long = ap length c.deref.ensures.value in
    c.from_residual.ensures ∙ sym (ap (λ m. finite.get m c.args.number) (sym c.self.view_is)
    ∙ map-none c.self.inside.groups.items c.spot_of-spot.result.group c.spot_of-spot.result.place c.args.number c.self.invariant.whole.whole (c.spot_of-spot.ensures.number, c.spot_of-spot.ensures.place) (omega (arith, past, long)))

pub returns : goal.returns
returns g c =
    let lt = ltb-true c.spot_of-spot.result.group (length c.deref.result.now) (sym c.in_ok-get.ensures.lookup.0) in let long = ap length c.deref.ensures.value in
    let there : c.spot_of-spot.result.group < length c.self.inside.groups.items = omega (arith, lt, long) in
    c.get-2.ensures
    ∙ ap (λ p. get_or p c.spot_of-spot.result.place None) (c.in_ok-get.ensures.lookup.1 ∙ ap (λ ps. get_or ps c.spot_of-spot.result.group c.in_ok-get.field-0.now) c.deref.ensures.value ∙ get_or_default c.self.inside.groups.items c.spot_of-spot.result.group c.in_ok-get.field-0.now [] there)
    ∙ map-get c.self.inside.groups.items c.spot_of-spot.result.group c.spot_of-spot.result.place c.args.number c.self.invariant.whole.whole (c.spot_of-spot.ensures.number, c.spot_of-spot.ensures.place) there
    ∙ ap (λ m. finite.get m c.args.number) c.self.view_is
