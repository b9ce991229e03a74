use Rattle.std.proofs.Common.{◌≡◌, ◌-◌, [], Some, None, IsSome, length, set, get_or, arith, sym, ap, subst, ◌∙◌}
use Rattle.std.proofs.lemmas.Bool.{false≢true}
use Rattle.std.proofs.lemmas.List.{get_or_default}
use Rattle.std.specs.FinMap as finite
use Rattle.ft_paged.specs.Paged.{dense, spread}
use Rattle.ft_paged.proofs.Tables.{table-get, table-has, table-past, table-put}
use Rattle.ft_paged.proofs.paged_table.PagedTable.insert.Goals as goal

pub returns-then-key-eq0-clause-ok : goal.returns-then-key-eq0-clause-ok
returns-then-key-eq0-clause-ok g c = c.set_zero.ensures ∙ ap (λ k. finite.insert c.args.self.now k c.args.value) (sym c.if-key-eq0.true)

pub returns-in_err-begin_at-clause-place : goal.returns-in_err-begin_at-clause-place
returns-in_err-begin_at-clause-place g c = λ some.
    let past = table-past c.self.inside.zero c.self.inside.skipped c.self.inside.groups.items c.args.self.now c.spot_of-spot.result.group c.spot_of-spot.result.place c.args.key c.spot_of-spot.ensures.key c.spot_of-spot.ensures.place c.self.view_is some in
    let stands = c.spot_of-spot.ensures.key in let within = c.spot_of-spot.ensures.place in
    let there = table-has c.self.inside.zero c.self.inside.skipped c.self.inside.groups.items c.args.self.now (c.spot_of-spot.result.group - c.self.inside.skipped) c.spot_of-spot.result.place c.args.key c.self.invariant.whole (omega arith, within) c.self.view_is some in
    absurd (false≢true (c.in_err-begin_at.ensures.none (omega arith) (omega arith)))

pub returns-in_err-make_group-clause-place : goal.returns-in_err-make_group-clause-place
returns-in_err-make_group-clause-place g c = λ some.
    let past = table-past c.self.inside.zero c.self.inside.skipped c.self.inside.groups.items c.args.self.now c.spot_of-spot.result.group c.spot_of-spot.result.place c.args.key c.spot_of-spot.ensures.key c.spot_of-spot.ensures.place c.self.view_is some in
    let stands = c.spot_of-spot.ensures.key in let within = c.spot_of-spot.ensures.place in
    let there = table-has c.self.inside.zero c.self.inside.skipped c.self.inside.groups.items c.args.self.now (c.spot_of-spot.result.group - c.self.inside.skipped) c.spot_of-spot.result.place c.args.key c.self.invariant.whole (omega arith, within) c.self.view_is some in
    let kept : c.begin_at.new.skipped ≡ c.self.inside.skipped = c.in_ok-begin_at.ensures.skipped_kept (omega arith) (omega arith) in
    let long : length c.begin_at.new.groups.items ≡ length c.self.inside.groups.items = ap length (c.in_ok-begin_at.ensures.groups_kept (omega arith)) in
    absurd (false≢true (c.in_err-make_group.ensures.none (omega arith)))

pub returns-in_err-insert-clause-place : goal.returns-in_err-insert-clause-place
returns-in_err-insert-clause-place g c = λ some.
    let begun = c.in_ok-begin_at.ensures.begun in let stands = c.spot_of-spot.ensures.key in let within = c.spot_of-spot.ensures.place in
    let group = c.spot_of-spot.result.group - c.begin_at.new.skipped in
    let same = c.in_ok-make_group.ensures.same c.self.inside.zero c.begin_at.new.skipped ∙ c.in_ok-begin_at.ensures.same c.self.inside.zero ∙ c.self.view_is in
    absurd (false≢true (c.in_err-insert.ensures.had (subst IsSome (sym (ap (λ p. get_or p c.spot_of-spot.result.place None) (c.index_mut.ensures.value ∙ get_or_default c.make_group.new.groups.items group c.index_mut.result.now [] c.in_ok-make_group.ensures.there)
    ∙ table-get c.self.inside.zero c.begin_at.new.skipped c.make_group.new.groups.items group c.spot_of-spot.result.place c.args.key c.in_ok-make_group.ensures.groups (omega arith, within) c.in_ok-make_group.ensures.there
    ∙ ap (λ m. finite.get m c.args.key) same)) some)))

pub returns-clause-ok : goal.returns-clause-ok
returns-clause-ok g c =
    let begun = c.in_ok-begin_at.ensures.begun in let stands = c.spot_of-spot.ensures.key in let within = c.spot_of-spot.ensures.place in
    let group = c.spot_of-spot.result.group - c.begin_at.new.skipped in
    let same = c.in_ok-make_group.ensures.same c.self.inside.zero c.begin_at.new.skipped ∙ c.in_ok-begin_at.ensures.same c.self.inside.zero ∙ c.self.view_is in
    ap (λ p. dense (spread c.self.inside.zero c.begin_at.new.skipped (set c.make_group.new.groups.items group p)))
    (c.in_ok-insert.ensures.ok ∙ ap (λ p. set p c.spot_of-spot.result.place (Some c.args.value)) (c.index_mut.ensures.value ∙ get_or_default c.make_group.new.groups.items group c.index_mut.result.now [] c.in_ok-make_group.ensures.there))
    ∙ table-put c.self.inside.zero c.begin_at.new.skipped c.make_group.new.groups.items group c.spot_of-spot.result.place c.args.key c.args.value c.in_ok-make_group.ensures.groups (omega arith, within) c.in_ok-make_group.ensures.there
    ∙ ap (λ m. finite.insert m c.args.key c.args.value) same
