use Rattle.std.proofs.Common.{◌+◌, ◌/◌, ◌%◌, [], None, Some, IsSome, set, get_or, arith, sym, ap, subst, ◌∙◌}
use Rattle.std.proofs.lemmas.Bool.{false≢true}
use Rattle.std.proofs.lemmas.List.{get_or_default, set-get_or}
use Rattle.ft_paged.specs.declared.TheConstants.{PAGE_LEN}
use Rattle.ft_paged.specs.Paged.{IsGroup, group_places}
use Rattle.ft_paged.proofs.Groups.{group-get, group-has, group-set, group-sound, count-put, count-again, count-most, none-when, on-err, stands-in}
use Rattle.ft_paged.proofs.group.Group.insert.Goals as goal

pub returns-in_err-have_page-clause-had : goal.returns-in_err-have_page-clause-had
returns-in_err-have_page-clause-had g c = λ some.
    let there = group-has c.self.inside.pages.items c.args.self.now (c.args.place / PAGE_LEN) (c.args.place % PAGE_LEN) c.args.place c.self.invariant.whole (stands-in c.args.place) c.self.view_is some in
    absurd (false≢true (c.in_err-have_page.ensures.had there))

pub returns-in_err-insert-clause-err : goal.returns-in_err-insert-clause-err
returns-in_err-insert-clause-err g c =
    let page = c.args.place / PAGE_LEN in let ps = c.have_page.new.pages.items in
    on-err c.from_residual-in_err-insert.result
    (ap (λ p. group_places (set ps page p)) (c.in_err-insert.ensures.err ∙ c.index_mut.ensures.value ∙ get_or_default ps page c.index_mut.result.now [] c.in_ok-have_page.ensures.there)
    ∙ ap group_places (set-get_or ps page []) ∙ c.in_ok-have_page.ensures.same ∙ c.self.view_is)

pub returns-in_err-insert-clause-had : goal.returns-in_err-insert-clause-had
returns-in_err-insert-clause-had g c = λ some.
    let page = c.args.place / PAGE_LEN in let within = c.args.place % PAGE_LEN in let ps = c.have_page.new.pages.items in
    absurd (false≢true (c.in_err-insert.ensures.had (subst IsSome (sym (ap (λ p. get_or p within None) (c.index_mut.ensures.value ∙ get_or_default ps page c.index_mut.result.now [] c.in_ok-have_page.ensures.there)
    ∙ group-get ps page within c.args.place c.in_ok-have_page.ensures.pages (stands-in c.args.place) c.in_ok-have_page.ensures.there
    ∙ ap (λ xs. get_or xs c.args.place None) (c.in_ok-have_page.ensures.same ∙ c.self.view_is))) some)))

pub overflow_add-self : goal.overflow_add-self
overflow_add-self g c = let most = count-most c.self.inside.used c.self.inside.pages.items c.self.invariant in omega arith

pub invariant_of-self-then-not-had : goal.invariant_of-self-then-not-had
invariant_of-self-then-not-had g c =
    let page = c.args.place / PAGE_LEN in let within = c.args.place % PAGE_LEN in let ps = c.have_page.new.pages.items in
    let there = c.in_ok-have_page.ensures.there in let whole = c.in_ok-have_page.ensures.pages in
    let counted = c.self.invariant.counted ∙ sym c.in_ok-have_page.ensures.valued in
    let found = c.get.ensures ∙ ap (λ p. get_or p within None) (c.index.ensures ∙ get_or_default ps page c.index.result.now [] there) in
    let more = count-put ps page within c.args.place c.args.value whole (stands-in c.args.place) there (sym found ∙ none-when c.get.result c.if-not-had.ensures) in
    subst (λ p. IsGroup (c.self.inside.used + 1) (set ps page p)) (sym (c.in_ok-insert.ensures.ok ∙ ap (λ p. set p within (Some c.args.value)) (c.index_mut.ensures.value ∙ get_or_default ps page c.index_mut.result.now [] there)))
    (group-sound c.self.inside.used (c.self.inside.used + 1) ps page within (Some c.args.value) (record { whole = whole; few = c.in_ok-have_page.ensures.few; counted = counted }) there (omega arith))

pub invariant_of-self-else-not-had : goal.invariant_of-self-else-not-had
invariant_of-self-else-not-had g c =
    let page = c.args.place / PAGE_LEN in let within = c.args.place % PAGE_LEN in let ps = c.have_page.new.pages.items in
    let there = c.in_ok-have_page.ensures.there in let whole = c.in_ok-have_page.ensures.pages in
    let counted = c.self.invariant.counted ∙ sym c.in_ok-have_page.ensures.valued in
    let found = c.get.ensures ∙ ap (λ p. get_or p within None) (c.index.ensures ∙ get_or_default ps page c.index.result.now [] there) in
    let same = count-again ps page within c.args.place c.args.value whole (stands-in c.args.place) there (subst IsSome found (sym c.if-not-had.ensures)) in
    subst (λ p. IsGroup c.self.inside.used (set ps page p)) (sym (c.in_ok-insert.ensures.ok ∙ ap (λ p. set p within (Some c.args.value)) (c.index_mut.ensures.value ∙ get_or_default ps page c.index_mut.result.now [] there)))
    (group-sound c.self.inside.used c.self.inside.used ps page within (Some c.args.value) (record { whole = whole; few = c.in_ok-have_page.ensures.few; counted = counted }) there (omega arith))

pub returns-then-not-had-clause-ok : goal.returns-then-not-had-clause-ok
returns-then-not-had-clause-ok g c =
    let page = c.args.place / PAGE_LEN in let within = c.args.place % PAGE_LEN in let ps = c.have_page.new.pages.items in let there = c.in_ok-have_page.ensures.there in
    ap (λ p. group_places (set ps page p)) (c.in_ok-insert.ensures.ok ∙ ap (λ p. set p within (Some c.args.value)) (c.index_mut.ensures.value ∙ get_or_default ps page c.index_mut.result.now [] there))
    ∙ group-set ps page within c.args.place (Some c.args.value) c.in_ok-have_page.ensures.pages (stands-in c.args.place) there ∙ ap (λ xs. set xs c.args.place (Some c.args.value)) (c.in_ok-have_page.ensures.same ∙ c.self.view_is)

pub returns-else-not-had-clause-ok : goal.returns-else-not-had-clause-ok
returns-else-not-had-clause-ok g c =
    let page = c.args.place / PAGE_LEN in let within = c.args.place % PAGE_LEN in let ps = c.have_page.new.pages.items in let there = c.in_ok-have_page.ensures.there in
    ap (λ p. group_places (set ps page p)) (c.in_ok-insert.ensures.ok ∙ ap (λ p. set p within (Some c.args.value)) (c.index_mut.ensures.value ∙ get_or_default ps page c.index_mut.result.now [] there))
    ∙ group-set ps page within c.args.place (Some c.args.value) c.in_ok-have_page.ensures.pages (stands-in c.args.place) there ∙ ap (λ xs. set xs c.args.place (Some c.args.value)) (c.in_ok-have_page.ensures.same ∙ c.self.view_is)
