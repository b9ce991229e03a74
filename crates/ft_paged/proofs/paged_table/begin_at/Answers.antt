use Rattle.std.proofs.Common.{◌-◌, ◌*◌, replicate, arith, sym, ap, subst, ◌∙◌}
use Rattle.std.proofs.lemmas.Bool.{eqb-true}
use Rattle.std.proofs.lemmas.List.{nil_from_length}
use Rattle.ft_paged.specs.declared.TheConstants.{GROUP_LEN}
use Rattle.ft_paged.specs.Paged.{dense, spread, joined_places, blank_group, HaveLen}
use Rattle.ft_paged.proofs.Places.{laid, laid-front, laid-empty}
use Rattle.ft_paged.proofs.Pages.{joined-front, lengthened, turned, pages-blank, pages-joined}
use Rattle.ft_paged.proofs.paged_table.begin_at.Goals as goal

pub returns-then-is_empty-clause-same : goal.returns-then-is_empty-clause-same
returns-then-is_empty-clause-same g c = λ zero.
    laid-empty zero (GROUP_LEN * c.args.number) (GROUP_LEN * c.args.skipped.now) (joined_places c.args.groups.now.items)
    (ap joined_places (nil_from_length c.args.groups.now.items (let none = eqb-true _ 0 (sym c.if-is_empty.ensures) in omega arith)))

pub returns-clause-groups : goal.returns-clause-groups
returns-clause-groups g c =
    let more = c.args.skipped.now - c.args.number in
    let long = lengthened blank_group c.args.groups.now.items c.add_groups.new.groups.items more c.in_ok-add_groups.ensures.ok in
    subst (HaveLen GROUP_LEN) (sym (c.rotate_right.ensures.items ∙ turned blank_group c.args.groups.now.items c.add_groups.new.groups.items more _ c.in_ok-add_groups.ensures.ok (omega arith)))
    (pages-joined GROUP_LEN (replicate more blank_group) c.args.groups.now.items (pages-blank _ GROUP_LEN more) c.requires)

pub returns-clause-same : goal.returns-clause-same
returns-clause-same g c = λ zero.
    let more = c.args.skipped.now - c.args.number in
    let long = lengthened blank_group c.args.groups.now.items c.add_groups.new.groups.items more c.in_ok-add_groups.ensures.ok in
    ap (λ ps. dense (spread zero c.args.number ps)) (c.rotate_right.ensures.items ∙ turned blank_group c.args.groups.now.items c.add_groups.new.groups.items more _ c.in_ok-add_groups.ensures.ok (omega arith))
    ∙ ap (λ xs. dense (laid zero (GROUP_LEN * c.args.number) xs)) (joined-front GROUP_LEN more c.args.groups.now.items)
    ∙ laid-front zero (GROUP_LEN * c.args.number) (GROUP_LEN * more) (GROUP_LEN * c.args.skipped.now) (joined_places c.args.groups.now.items) (omega arith)
