use Rattle.std.proofs.Common.{◌<◌, ◌-◌, ◌/◌, ◌%◌, ◌++◌, length, set, arith, ap}
use Rattle.std.proofs.Math.Nat.{div-add-mod, mod-lt}
use Rattle.std.specs.Prelude.{vec_len, vec_capacity}
use Rattle.std.specs.Vec.{with_item}
use Rattle.ft_paged.specs.declared.TheConstants.{LIST_PAGE_LEN}
use Rattle.ft_paged.specs.Roomy.{joined_items}
use Rattle.ft_paged.proofs.ListPages.{list-length, full-set, last-set, set-seen}
use Rattle.ft_paged.proofs.paged_list.PagedList.set.Goals as goal

pub index_mut-requires-else-page-len : goal.index_mut-requires-else-page-len
index_mut-requires-else-page-len c =
    let long = list-length c.self.inside.full.items c.self.inside.last.items c.self.invariant.full in let seen = ap (λ s. length s.items) c.self.view_is in
    let stands = div-add-mod c.args.place LIST_PAGE_LEN in let within = c.requires in omega arith

pub returns-then-page-len : goal.returns-then-page-len
returns-then-page-len c =
    let page = c.args.place / LIST_PAGE_LEN in let within = c.args.place % LIST_PAGE_LEN in
    let full = c.self.inside.full.items in let last = c.self.inside.last in let changed = with_item c.index_mut.result.now within c.args.value in
    let stands = div-add-mod c.args.place LIST_PAGE_LEN in let less : within < LIST_PAGE_LEN = mod-lt c.args.place (omega arith) in
    set-seen (joined_items (set full page changed) ++ last.items) (joined_items full ++ last.items) (vec_capacity last - vec_len last) c.args.place c.args.value c.args.self.now
    (full-set full last.items c.index_mut.result.now changed page within c.args.place c.args.value c.self.invariant.full (omega arith) less (omega arith) (ap (λ p. set p.items within c.args.value) c.index_mut.ensures.value))
    c.self.view_is

pub returns-else-page-len : goal.returns-else-page-len
returns-else-page-len c =
    let within = c.args.place % LIST_PAGE_LEN in let full = c.self.inside.full.items in let last = c.self.inside.last in
    let long = list-length full last.items c.self.invariant.full in let seen = ap (λ s. length s.items) c.self.view_is in
    let stands = div-add-mod c.args.place LIST_PAGE_LEN in let less : within < LIST_PAGE_LEN = mod-lt c.args.place (omega arith) in let there = c.requires in
    set-seen (joined_items full ++ set last.items within c.args.value) (joined_items full ++ last.items) (vec_capacity last - vec_len last) c.args.place c.args.value c.args.self.now
    (last-set full last.items within c.args.place c.args.value c.self.invariant.full (omega arith)) c.self.view_is
