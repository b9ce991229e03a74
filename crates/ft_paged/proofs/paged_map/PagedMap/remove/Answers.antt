use Rattle.std.proofs.Common.{◌≡◌, ◌<◌, ◌-◌, [], None, set, get_or, arith, sym, ap, subst, ◌∙◌}
use Rattle.std.proofs.lemmas.List.{get_or_default}
use Rattle.std.specs.FinMap as finite
use Rattle.ft_paged.specs.Paged.{dense, joined_places, IsPagedMap}
use Rattle.ft_paged.proofs.Maps.{map-absent, map-has, map-counted, map-taken, map-taken-sound}
use Rattle.ft_paged.proofs.paged_map.PagedMap.remove.Goals as goal

pub returns-in_err-value-clause-after : goal.returns-in_err-value-clause-after
returns-in_err-value-clause-after g c = map-absent c.self.inside.groups.items c.args.self.now c.args.number c.self.view_is c.in_err-value.ensures

pub index_mut-requires : goal.index_mut-requires
index_mut-requires g c =
    subst (λ n. c.spot_of-spot.result.group < n) (sym c.self.inside.groups.ok.0)
    (map-has c.self.inside.groups.items c.args.self.now c.spot_of-spot.result.group c.spot_of-spot.result.place c.args.number c.in_ok-value.value c.self.invariant.whole.whole (c.spot_of-spot.ensures.number, c.spot_of-spot.ensures.place)
    c.self.view_is c.in_ok-value.ensures)

pub overflow_sub-self : goal.overflow_sub-self
overflow_sub-self g c =
    let some = map-counted c.self.inside.groups.items c.args.self.now c.args.number c.in_ok-value.value c.self.view_is c.in_ok-value.ensures in let counted = c.self.invariant.counted in omega arith

pub invariant_of-self : goal.invariant_of-self
invariant_of-self g c =
    let group = c.spot_of-spot.result.group in
    let there = map-has c.self.inside.groups.items c.args.self.now group c.spot_of-spot.result.place c.args.number c.in_ok-value.value c.self.invariant.whole.whole (c.spot_of-spot.ensures.number, c.spot_of-spot.ensures.place) c.self.view_is c.in_ok-value.ensures in
    let new : c.remove.new.self ≡ set (get_or c.self.inside.groups.items group []) c.spot_of-spot.result.place None =
    c.remove.ensures.after ∙ ap (λ p. set p c.spot_of-spot.result.place None) (c.index_mut.ensures.value ∙ get_or_default c.self.inside.groups.items group c.index_mut.result.now [] there) in
    subst (λ p. IsPagedMap (c.self.inside.count - 1) (set c.self.inside.groups.items group p) c.remove.new.spare.page c.remove.new.spare.group) (sym new)
    (map-taken-sound c.self.inside.count c.self.inside.groups.items c.args.self.now group c.spot_of-spot.result.place c.args.number c.in_ok-value.value c.remove.new.spare.page c.remove.new.spare.group
    c.self.invariant.counted c.self.invariant.whole (c.spot_of-spot.ensures.number, c.spot_of-spot.ensures.place) c.self.view_is c.in_ok-value.ensures c.remove.ensures.spare)

pub returns-clause-after : goal.returns-clause-after
returns-clause-after g c =
    let group = c.spot_of-spot.result.group in
    let there = map-has c.self.inside.groups.items c.args.self.now group c.spot_of-spot.result.place c.args.number c.in_ok-value.value c.self.invariant.whole.whole (c.spot_of-spot.ensures.number, c.spot_of-spot.ensures.place) c.self.view_is c.in_ok-value.ensures in
    ap (λ p. dense (joined_places (set c.self.inside.groups.items group p)))
    (c.remove.ensures.after ∙ ap (λ p. set p c.spot_of-spot.result.place None) (c.index_mut.ensures.value ∙ get_or_default c.self.inside.groups.items group c.index_mut.result.now [] there))
    ∙ map-taken c.self.inside.groups.items group c.spot_of-spot.result.place c.args.number c.self.invariant.whole.whole (c.spot_of-spot.ensures.number, c.spot_of-spot.ensures.place) there
    ∙ ap (λ m. finite.remove m c.args.number) c.self.view_is
