use Rattle.std.proofs.Common.{◌*◌, [], None, set, arith, sym, ap, ◌∙◌}
use Rattle.std.proofs.lemmas.List.{get_or_default}
use Rattle.std.specs.FinMap as finite
use Rattle.ft_paged.specs.declared.TheConstants.{GROUP_LEN}
use Rattle.ft_paged.specs.Paged.{dense, spread, joined_places}
use Rattle.ft_paged.proofs.Places.{zero-taken, no-number}
use Rattle.ft_paged.proofs.Tables.{table-taken, table-absent}
use Rattle.ft_paged.proofs.paged_table.PagedTable.remove.Goals as goal

pub returns-then-key-eq0 : goal.returns-then-key-eq0
returns-then-key-eq0 g c =
    zero-taken c.self.inside.zero (GROUP_LEN * c.self.inside.skipped) (joined_places c.self.inside.groups.items) ∙ ap (λ m. finite.remove m 0) c.self.view_is ∙ ap (finite.remove c.args.self.now) (sym c.if-key-eq0.true)

pub returns-in_default : goal.returns-in_default
returns-in_default g c =
    let past = c.in_default.ensures in let stands = c.spot_of-spot.ensures.key in let within = c.spot_of-spot.ensures.place in
    sym c.self.view_is ∙ no-number c.self.inside.zero (GROUP_LEN * c.self.inside.skipped) (joined_places c.self.inside.groups.items) c.args.key (omega arith) (omega (arith, past)) ∙ ap (λ m. finite.remove m c.args.key) c.self.view_is

pub returns-then-group-len : goal.returns-then-group-len
returns-then-group-len g c =
    let at = c.in-Some.ensures in let stands = c.spot_of-spot.ensures.key in let within = c.spot_of-spot.ensures.place in
    ap (λ p. dense (spread c.self.inside.zero c.self.inside.skipped (set c.self.inside.groups.items c.in-Some.group p)))
    (c.remove.ensures.after ∙ ap (λ p. set p c.spot_of-spot.result.place None) (c.index_mut.ensures.value ∙ get_or_default c.self.inside.groups.items c.in-Some.group c.index_mut.result.now [] (omega arith)))
    ∙ table-taken c.self.inside.zero c.self.inside.skipped c.self.inside.groups.items c.in-Some.group c.spot_of-spot.result.place c.args.key c.self.invariant.whole (omega (arith, at.0, at.1), within) (omega arith)
    ∙ ap (λ m. finite.remove m c.args.key) c.self.view_is

pub returns-else-group-len : goal.returns-else-group-len
returns-else-group-len g c =
    let at = c.in-Some.ensures in let stands = c.spot_of-spot.ensures.key in let within = c.spot_of-spot.ensures.place in
    sym c.self.view_is ∙ table-absent c.self.inside.zero c.self.inside.skipped c.self.inside.groups.items c.in-Some.group c.spot_of-spot.result.place c.args.key c.self.invariant.whole (omega (arith, at.0, at.1), within) (omega arith)
    ∙ ap (λ m. finite.remove m c.args.key) c.self.view_is
