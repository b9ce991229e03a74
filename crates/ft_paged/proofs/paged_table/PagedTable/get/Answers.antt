use Rattle.std.proofs.Common.{◌*◌, ◌<◌, [], None, length, get_or, arith, sym, ap, ◌∙◌}
use Rattle.std.proofs.lemmas.Bool.{ltb-true, ltb-false}
use Rattle.std.proofs.lemmas.List.{get_or_default}
use Rattle.std.specs.FinMap as finite
use Rattle.ft_paged.specs.declared.TheConstants.{GROUP_LEN}
use Rattle.ft_paged.specs.Paged.{joined_places}
use Rattle.ft_paged.proofs.Places.{found-none, found-zero}
use Rattle.ft_paged.proofs.Tables.{table-get, table-none}
use Rattle.ft_paged.proofs.paged_table.PagedTable.get.Goals as goal

pub returns-then-key-eq0 : goal.returns-then-key-eq0
returns-then-key-eq0 g c =
    found-zero c.self.inside.zero (GROUP_LEN * c.self.inside.skipped) (joined_places c.self.inside.groups.items) ∙ ap (λ m. finite.get m 0) c.self.view_is ∙ ap (finite.get c.args.self.now) (sym c.if-key-eq0.true)

pub returns-in_err-group : goal.returns-in_err-group
returns-in_err-group g c =
    let past = c.in_err-group.ensures in let stands = c.spot_of-spot.ensures.key in let within = c.spot_of-spot.ensures.place in
    c.from_residual.ensures ∙ sym (ap (λ m. finite.get m c.args.key) (sym c.self.view_is)
    ∙ found-none c.self.inside.zero (GROUP_LEN * c.self.inside.skipped) (joined_places c.self.inside.groups.items) c.args.key (omega arith) (omega (arith, past)))

pub returns-in_err-get : goal.returns-in_err-get
returns-in_err-get g c =
    let at = c.in_ok-group.ensures in let stands = c.spot_of-spot.ensures.key in let within = c.spot_of-spot.ensures.place in
    let past = ltb-false c.in_ok-group.group (length c.deref.result.now) (sym c.in_err-get.ensures.lookup.0) in let long = ap length c.deref.ensures.value in
    c.from_residual-in_err-get.ensures ∙ sym (ap (λ m. finite.get m c.args.key) (sym c.self.view_is)
    ∙ table-none c.self.inside.zero c.self.inside.skipped c.self.inside.groups.items c.in_ok-group.group c.spot_of-spot.result.place c.args.key c.self.invariant.whole (omega (arith, at.0, at.1), within) (omega (arith, past, long)))

pub returns : goal.returns
returns g c =
    let at = c.in_ok-group.ensures in let stands = c.spot_of-spot.ensures.key in let within = c.spot_of-spot.ensures.place in
    let lt = ltb-true c.in_ok-group.group (length c.deref.result.now) (sym c.in_ok-get.ensures.lookup.0) in let long = ap length c.deref.ensures.value in
    let there : c.in_ok-group.group < length c.self.inside.groups.items = omega (arith, lt, long) in
    c.get-2.ensures ∙ ap (λ p. get_or p c.spot_of-spot.result.place None) (c.in_ok-get.ensures.lookup.1 ∙ ap (λ ps. get_or ps c.in_ok-group.group c.in_ok-get.field-0.now) c.deref.ensures.value ∙ get_or_default c.self.inside.groups.items c.in_ok-group.group c.in_ok-get.field-0.now [] there)
    ∙ table-get c.self.inside.zero c.self.inside.skipped c.self.inside.groups.items c.in_ok-group.group c.spot_of-spot.result.place c.args.key c.self.invariant.whole (omega (arith, at.0, at.1), within) there
    ∙ ap (λ m. finite.get m c.args.key) c.self.view_is
