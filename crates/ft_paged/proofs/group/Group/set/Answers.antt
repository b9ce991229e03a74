use Rattle.std.proofs.Common.{◌/◌, ◌%◌, [], None, Some, IsSome, set, get_or, arith, sym, ap, subst, ◌∙◌}
use Rattle.std.proofs.lemmas.List.{get_or_default}
use Rattle.ft_paged.specs.declared.TheConstants.{PAGE_LEN}
use Rattle.ft_paged.specs.Paged.{IsGroup, group_places}
use Rattle.ft_paged.proofs.Groups.{group-get, group-has, group-set, group-sound, count-again, stands-in}
use Rattle.ft_paged.proofs.group.Group.set.Goals as goal

pub index_mut-requires : goal.index_mut-requires
index_mut-requires g c =
    let there = group-has c.self.inside.pages.items c.args.self.now (c.args.place / PAGE_LEN) (c.args.place % PAGE_LEN) c.args.place c.self.invariant.whole (stands-in c.args.place) c.self.view_is c.requires in omega arith

pub set-requires : goal.set-requires
set-requires g c =
    let page = c.args.place / PAGE_LEN in let within = c.args.place % PAGE_LEN in let ps = c.self.inside.pages.items in
    let there = group-has ps c.args.self.now page within c.args.place c.self.invariant.whole (stands-in c.args.place) c.self.view_is c.requires in
    subst IsSome (sym (ap (λ p. get_or p within None) (c.index_mut.ensures.value ∙ get_or_default ps page c.index_mut.result.now [] there)
    ∙ group-get ps page within c.args.place c.self.invariant.whole (stands-in c.args.place) there ∙ ap (λ xs. get_or xs c.args.place None) c.self.view_is)) c.requires

pub invariant_of-self : goal.invariant_of-self
invariant_of-self g c =
    let page = c.args.place / PAGE_LEN in let within = c.args.place % PAGE_LEN in let ps = c.self.inside.pages.items in
    let there = group-has ps c.args.self.now page within c.args.place c.self.invariant.whole (stands-in c.args.place) c.self.view_is c.requires in
    let some = subst IsSome (sym (group-get ps page within c.args.place c.self.invariant.whole (stands-in c.args.place) there ∙ ap (λ xs. get_or xs c.args.place None) c.self.view_is)) c.requires in
    subst (λ p. IsGroup c.self.inside.used (set ps page p)) (sym (c.set.ensures ∙ ap (λ p. set p within (Some c.args.value)) (c.index_mut.ensures.value ∙ get_or_default ps page c.index_mut.result.now [] there)))
    (group-sound c.self.inside.used c.self.inside.used ps page within (Some c.args.value) c.self.invariant there (c.self.invariant.counted ∙ sym (count-again ps page within c.args.place c.args.value c.self.invariant.whole (stands-in c.args.place) there some)))

pub returns : goal.returns
returns g c =
    let page = c.args.place / PAGE_LEN in let within = c.args.place % PAGE_LEN in let ps = c.self.inside.pages.items in
    let there = group-has ps c.args.self.now page within c.args.place c.self.invariant.whole (stands-in c.args.place) c.self.view_is c.requires in
    ap (λ p. group_places (set ps page p)) (c.set.ensures ∙ ap (λ p. set p within (Some c.args.value)) (c.index_mut.ensures.value ∙ get_or_default ps page c.index_mut.result.now [] there))
    ∙ group-set ps page within c.args.place (Some c.args.value) c.self.invariant.whole (stands-in c.args.place) there ∙ ap (λ xs. set xs c.args.place (Some c.args.value)) c.self.view_is
