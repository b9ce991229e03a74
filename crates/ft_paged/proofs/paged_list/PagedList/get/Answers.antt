use Rattle.std.proofs.Common.{◌<◌, ◌/◌, ◌%◌, length, get_or, arith, sym, ap, ◌∙◌}
use Rattle.std.proofs.Math.Nat.{div-add-mod, mod-lt}
use Rattle.std.proofs.lemmas.Bool.{ltb-true, ltb-false}
use Rattle.std.proofs.lemmas.List.{get_or_default}
use Rattle.ft_paged.specs.declared.TheConstants.{LIST_PAGE_LEN}
use Rattle.ft_paged.proofs.ListPages.{list-length, full-get, last-get}
use Rattle.ft_paged.proofs.paged_list.PagedList.get.Goals as goal

pub index-requires-in-None : goal.index-requires-in-None
index-requires-in-None c =
    let long = list-length c.self.inside.full.items c.self.inside.last.items c.self.invariant.full in let seen = ap (λ s. length s.items) c.self.view_is in
    let past = ltb-false (c.args.place / LIST_PAGE_LEN) (length c.deref.result.now) (sym c.in-None.ensures.lookup.0) in let pages = ap length c.deref.ensures.value in
    let stands = div-add-mod c.args.place LIST_PAGE_LEN in let within = c.requires in omega arith

pub returns-in-Some : goal.returns-in-Some
returns-in-Some c =
    let page = c.args.place / LIST_PAGE_LEN in let within = c.args.place % LIST_PAGE_LEN in let found = c.index.result.now in
    let lt = ltb-true page (length c.deref.result.now) (sym c.in-Some.ensures.lookup.0) in let pages = ap length c.deref.ensures.value in
    let stands = div-add-mod c.args.place LIST_PAGE_LEN in let less : within < LIST_PAGE_LEN = mod-lt c.args.place (omega arith) in
    c.index.ensures ∙ ap (λ p. get_or p.items within found) (c.in-Some.ensures.lookup.1 ∙ ap (λ ps. get_or ps page c.in-Some.page.now) c.deref.ensures.value)
    ∙ full-get c.self.inside.full.items c.self.inside.last.items c.in-Some.page.now page within c.args.place found c.self.invariant.full (omega arith) less (omega arith)
    ∙ ap (λ s. get_or s.items c.args.place found) c.self.view_is ∙ get_or_default c.args.self.now.items c.args.place found 0 c.requires

pub returns-in-None : goal.returns-in-None
returns-in-None c =
    let within = c.args.place % LIST_PAGE_LEN in let found = c.index-in-None.result.now in
    let long = list-length c.self.inside.full.items c.self.inside.last.items c.self.invariant.full in let seen = ap (λ s. length s.items) c.self.view_is in
    let past = ltb-false (c.args.place / LIST_PAGE_LEN) (length c.deref.result.now) (sym c.in-None.ensures.lookup.0) in let pages = ap length c.deref.ensures.value in
    let stands = div-add-mod c.args.place LIST_PAGE_LEN in let less : within < LIST_PAGE_LEN = mod-lt c.args.place (omega arith) in let there = c.requires in
    c.index-in-None.ensures ∙ last-get c.self.inside.full.items c.self.inside.last.items within c.args.place found c.self.invariant.full (omega arith)
    ∙ ap (λ s. get_or s.items c.args.place found) c.self.view_is ∙ get_or_default c.args.self.now.items c.args.place found 0 c.requires
