use Rattle.std.proofs.Common.{◌-◌, [], Some, None, IsSome, set, get_or, arith, sym, ap, subst, ◌∙◌}
use Rattle.std.proofs.lemmas.List.{get_or_default}
use Rattle.std.specs.FinMap as finite
use Rattle.ft_paged.specs.Paged.{dense, spread}
use Rattle.ft_paged.proofs.Tables.{table-get, table-has, table-past, table-put}
use Rattle.ft_paged.proofs.paged_table.PagedTable.set.Goals as goal

pub overflow_sub-group : goal.overflow_sub-group
overflow_sub-group g c = table-past c.self.inside.zero c.self.inside.skipped c.self.inside.groups.items c.args.self.now c.spot_of-spot.result.group c.spot_of-spot.result.place c.args.key c.spot_of-spot.ensures.key c.spot_of-spot.ensures.place c.self.view_is c.requires

pub index_mut-requires : goal.index_mut-requires
index_mut-requires g c =
    let past = table-past c.self.inside.zero c.self.inside.skipped c.self.inside.groups.items c.args.self.now c.spot_of-spot.result.group c.spot_of-spot.result.place c.args.key c.spot_of-spot.ensures.key c.spot_of-spot.ensures.place c.self.view_is c.requires in
    let stands = c.spot_of-spot.ensures.key in let within = c.spot_of-spot.ensures.place in
    let there = table-has c.self.inside.zero c.self.inside.skipped c.self.inside.groups.items c.args.self.now (c.spot_of-spot.result.group - c.self.inside.skipped) c.spot_of-spot.result.place c.args.key c.self.invariant.whole (omega arith, within) c.self.view_is c.requires in omega arith

pub set-requires : goal.set-requires
set-requires g c =
    let past = table-past c.self.inside.zero c.self.inside.skipped c.self.inside.groups.items c.args.self.now c.spot_of-spot.result.group c.spot_of-spot.result.place c.args.key c.spot_of-spot.ensures.key c.spot_of-spot.ensures.place c.self.view_is c.requires in
    let stands = c.spot_of-spot.ensures.key in let within = c.spot_of-spot.ensures.place in
    let there = table-has c.self.inside.zero c.self.inside.skipped c.self.inside.groups.items c.args.self.now (c.spot_of-spot.result.group - c.self.inside.skipped) c.spot_of-spot.result.place c.args.key c.self.invariant.whole (omega arith, within) c.self.view_is c.requires in
    subst IsSome (sym (ap (λ p. get_or p c.spot_of-spot.result.place None) (c.index_mut.ensures.value ∙ get_or_default c.self.inside.groups.items (c.spot_of-spot.result.group - c.self.inside.skipped) c.index_mut.result.now [] there)
    ∙ table-get c.self.inside.zero c.self.inside.skipped c.self.inside.groups.items (c.spot_of-spot.result.group - c.self.inside.skipped) c.spot_of-spot.result.place c.args.key c.self.invariant.whole (omega arith, within) there
    ∙ ap (λ m. finite.get m c.args.key) c.self.view_is)) c.requires

pub returns-then-key-eq0 : goal.returns-then-key-eq0
returns-then-key-eq0 g c = c.set_zero.ensures ∙ ap (λ k. finite.insert c.args.self.now k c.args.value) (sym c.if-key-eq0.true)

pub returns-else-key-eq0 : goal.returns-else-key-eq0
returns-else-key-eq0 g c =
    let past = table-past c.self.inside.zero c.self.inside.skipped c.self.inside.groups.items c.args.self.now c.spot_of-spot.result.group c.spot_of-spot.result.place c.args.key c.spot_of-spot.ensures.key c.spot_of-spot.ensures.place c.self.view_is c.requires in
    let stands = c.spot_of-spot.ensures.key in let within = c.spot_of-spot.ensures.place in
    let there = table-has c.self.inside.zero c.self.inside.skipped c.self.inside.groups.items c.args.self.now (c.spot_of-spot.result.group - c.self.inside.skipped) c.spot_of-spot.result.place c.args.key c.self.invariant.whole (omega arith, within) c.self.view_is c.requires in
    ap (λ p. dense (spread c.self.inside.zero c.self.inside.skipped (set c.self.inside.groups.items (c.spot_of-spot.result.group - c.self.inside.skipped) p)))
    (c.set.ensures ∙ ap (λ p. set p c.spot_of-spot.result.place (Some c.args.value)) (c.index_mut.ensures.value ∙ get_or_default c.self.inside.groups.items (c.spot_of-spot.result.group - c.self.inside.skipped) c.index_mut.result.now [] there))
    ∙ table-put c.self.inside.zero c.self.inside.skipped c.self.inside.groups.items (c.spot_of-spot.result.group - c.self.inside.skipped) c.spot_of-spot.result.place c.args.key c.args.value c.self.invariant.whole (omega arith, within) there
    ∙ ap (λ m. finite.insert m c.args.key c.args.value) c.self.view_is
