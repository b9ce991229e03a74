use Rattle.std.proofs.Common.{◌-◌, ◌/◌, ◌%◌, [], None, IsSome, set, get_or, arith, sym, ap, subst, ◌∙◌}
use Rattle.std.proofs.lemmas.List.{get_or_default}
use Rattle.ft_paged.specs.declared.TheConstants.{PAGE_LEN}
use Rattle.ft_paged.specs.Paged.{IsGroup, group_places}
use Rattle.ft_paged.proofs.Groups.{group-get, group-has, group-set, group-sound, group-nothing, count-taken, stands-in}
use Rattle.ft_paged.proofs.group.Group.remove.Goals as goal

pub index_mut-requires : goal.index_mut-requires
index_mut-requires g c =
    let there = group-has c.self.inside.pages.items c.args.self.now (c.args.place / PAGE_LEN) (c.args.place % PAGE_LEN) c.args.place c.self.invariant.whole (stands-in c.args.place) c.self.view_is (subst IsSome c.get.ensures c.if-is_none.ensures) in omega arith

pub overflow_sub-self : goal.overflow_sub-self
overflow_sub-self g c =
    let page = c.args.place / PAGE_LEN in let within = c.args.place % PAGE_LEN in let ps = c.self.inside.pages.items in
    let seen = subst IsSome c.get.ensures c.if-is_none.ensures in
    let there = group-has ps c.args.self.now page within c.args.place c.self.invariant.whole (stands-in c.args.place) c.self.view_is seen in
    let some = subst IsSome (sym (group-get ps page within c.args.place c.self.invariant.whole (stands-in c.args.place) there ∙ ap (λ xs. get_or xs c.args.place None) c.self.view_is)) seen in
    let less = count-taken ps page within c.args.place c.self.invariant.whole (stands-in c.args.place) there some in let counted = c.self.invariant.counted in omega arith

pub invariant_of-self : goal.invariant_of-self
invariant_of-self g c =
    let page = c.args.place / PAGE_LEN in let within = c.args.place % PAGE_LEN in let ps = c.self.inside.pages.items in
    let seen = subst IsSome c.get.ensures c.if-is_none.ensures in
    let there = group-has ps c.args.self.now page within c.args.place c.self.invariant.whole (stands-in c.args.place) c.self.view_is seen in
    let some = subst IsSome (sym (group-get ps page within c.args.place c.self.invariant.whole (stands-in c.args.place) there ∙ ap (λ xs. get_or xs c.args.place None) c.self.view_is)) seen in
    let less = count-taken ps page within c.args.place c.self.invariant.whole (stands-in c.args.place) there some in let counted = c.self.invariant.counted in
    subst (λ p. IsGroup (c.self.inside.used - 1) (set ps page p)) (sym (c.remove.ensures.after ∙ ap (λ p. set p within None) (c.index_mut.ensures.value ∙ get_or_default ps page c.index_mut.result.now [] there)))
    (group-sound c.self.inside.used (c.self.inside.used - 1) ps page within None c.self.invariant there (omega arith))

pub invariant_of-self-else-self-eq0 : goal.invariant_of-self-else-self-eq0
invariant_of-self-else-self-eq0 g c =
    let page = c.args.place / PAGE_LEN in let within = c.args.place % PAGE_LEN in let ps = c.self.inside.pages.items in
    let seen = subst IsSome c.get.ensures c.if-is_none.ensures in
    let there = group-has ps c.args.self.now page within c.args.place c.self.invariant.whole (stands-in c.args.place) c.self.view_is seen in
    let some = subst IsSome (sym (group-get ps page within c.args.place c.self.invariant.whole (stands-in c.args.place) there ∙ ap (λ xs. get_or xs c.args.place None) c.self.view_is)) seen in
    let less = count-taken ps page within c.args.place c.self.invariant.whole (stands-in c.args.place) there some in let counted = c.self.invariant.counted in
    subst (λ p. IsGroup (c.self.inside.used - 1) (set ps page p)) (sym (c.remove.ensures.after ∙ ap (λ p. set p within None) (c.index_mut.ensures.value ∙ get_or_default ps page c.index_mut.result.now [] there)))
    (group-sound c.self.inside.used (c.self.inside.used - 1) ps page within None c.self.invariant there (omega arith))

pub free-requires-clause-places : goal.free-requires-clause-places
free-requires-clause-places g c =
    let page = c.args.place / PAGE_LEN in let within = c.args.place % PAGE_LEN in let ps = c.self.inside.pages.items in
    let seen = subst IsSome c.get.ensures c.if-is_none.ensures in
    let there = group-has ps c.args.self.now page within c.args.place c.self.invariant.whole (stands-in c.args.place) c.self.view_is seen in
    let some = subst IsSome (sym (group-get ps page within c.args.place c.self.invariant.whole (stands-in c.args.place) there ∙ ap (λ xs. get_or xs c.args.place None) c.self.view_is)) seen in
    let less = count-taken ps page within c.args.place c.self.invariant.whole (stands-in c.args.place) there some in let counted = c.self.invariant.counted in let none = c.if-self-eq0.true in
    let sound = group-sound c.self.inside.used (c.self.inside.used - 1) ps page within None c.self.invariant there (omega arith) in
    ap (λ p. group_places (set ps page p)) (c.remove.ensures.after ∙ ap (λ p. set p within None) (c.index_mut.ensures.value ∙ get_or_default ps page c.index_mut.result.now [] there))
    ∙ group-nothing (set ps page (set (get_or ps page []) within None)) sound.whole sound.few (omega arith)

pub returns-then-self-eq0-clause-after : goal.returns-then-self-eq0-clause-after
returns-then-self-eq0-clause-after g c =
    let page = c.args.place / PAGE_LEN in let within = c.args.place % PAGE_LEN in let ps = c.self.inside.pages.items in
    let seen = subst IsSome c.get.ensures c.if-is_none.ensures in
    let there = group-has ps c.args.self.now page within c.args.place c.self.invariant.whole (stands-in c.args.place) c.self.view_is seen in
    let some = subst IsSome (sym (group-get ps page within c.args.place c.self.invariant.whole (stands-in c.args.place) there ∙ ap (λ xs. get_or xs c.args.place None) c.self.view_is)) seen in
    let less = count-taken ps page within c.args.place c.self.invariant.whole (stands-in c.args.place) there some in let counted = c.self.invariant.counted in let none = c.if-self-eq0.true in
    let sound = group-sound c.self.inside.used (c.self.inside.used - 1) ps page within None c.self.invariant there (omega arith) in
    c.free.ensures.same ∙ sym (group-nothing (set ps page (set (get_or ps page []) within None)) sound.whole sound.few (omega arith))
    ∙ group-set ps page within c.args.place None c.self.invariant.whole (stands-in c.args.place) there ∙ ap (λ xs. set xs c.args.place None) c.self.view_is

pub returns-else-self-eq0-clause-after : goal.returns-else-self-eq0-clause-after
returns-else-self-eq0-clause-after g c =
    let page = c.args.place / PAGE_LEN in let within = c.args.place % PAGE_LEN in let ps = c.self.inside.pages.items in
    let seen = subst IsSome c.get.ensures c.if-is_none.ensures in
    let there = group-has ps c.args.self.now page within c.args.place c.self.invariant.whole (stands-in c.args.place) c.self.view_is seen in
    ap (λ p. group_places (set ps page p)) (c.remove.ensures.after ∙ ap (λ p. set p within None) (c.index_mut.ensures.value ∙ get_or_default ps page c.index_mut.result.now [] there))
    ∙ group-set ps page within c.args.place None c.self.invariant.whole (stands-in c.args.place) there ∙ ap (λ xs. set xs c.args.place None) c.self.view_is
