use Rattle.std.proofs.Common.{◌≡◌, ◌+◌, [], Some, set, get_or, arith, sym, ap, subst, ◌∙◌}
use Rattle.std.proofs.lemmas.List.{get_or_default}
use Rattle.std.specs.FinMap as finite
use Rattle.ft_paged.specs.Paged.{dense, joined_places, IsPagedMap}
use Rattle.ft_paged.proofs.Maps.{map-put, map-most, map-put-sound}
use Rattle.ft_paged.proofs.paged_map.PagedMap.insert.Goals as goal

pub overflow_add-self : goal.overflow_add-self
overflow_add-self g c = let most = map-most c.self.inside.count c.self.inside.groups.items c.self.inside.spare.page c.self.inside.spare.group c.self.invariant in omega arith

pub invariant_of-self-2 : goal.invariant_of-self-2
invariant_of-self-2 g c =
    let group = c.spot_of-spot.result.group in
    let there = c.in_ok-have_group.ensures.there in
    let new : c.insert.new.self ≡ set (get_or c.have_group.new.groups.items group []) c.spot_of-spot.result.place (Some c.args.value) =
    c.in_ok-insert.ensures.ok ∙ ap (λ p. set p c.spot_of-spot.result.place (Some c.args.value)) (c.index_mut.ensures.value ∙ get_or_default c.have_group.new.groups.items group c.index_mut.result.now [] there) in
    subst (λ p. IsPagedMap (c.self.inside.count + 1) (set c.have_group.new.groups.items group p) c.insert.new.spare.page c.insert.new.spare.group) (sym new)
    (map-put-sound c.self.inside.count c.have_group.new.groups.items group c.spot_of-spot.result.place c.args.number c.args.value c.insert.new.spare.page c.insert.new.spare.group
    (c.self.invariant.counted ∙ sym c.have_group.ensures.count) c.have_group.ensures.groups (c.spot_of-spot.ensures.number, c.spot_of-spot.ensures.place) there
    (ap (λ m. finite.get m c.args.number) (c.have_group.ensures.same ∙ c.self.view_is) ∙ c.requires) c.insert.ensures.spare)

pub returns-clause-ok : goal.returns-clause-ok
returns-clause-ok g c =
    let group = c.spot_of-spot.result.group in
    let there = c.in_ok-have_group.ensures.there in
    ap (λ p. dense (joined_places (set c.have_group.new.groups.items group p)))
    (c.in_ok-insert.ensures.ok ∙ ap (λ p. set p c.spot_of-spot.result.place (Some c.args.value)) (c.index_mut.ensures.value ∙ get_or_default c.have_group.new.groups.items group c.index_mut.result.now [] there))
    ∙ map-put c.have_group.new.groups.items group c.spot_of-spot.result.place c.args.number c.args.value c.have_group.ensures.groups.whole (c.spot_of-spot.ensures.number, c.spot_of-spot.ensures.place) there
    ∙ ap (λ m. finite.insert m c.args.number c.args.value) (c.have_group.ensures.same ∙ c.self.view_is)
