use Rattle.std.proofs.Common.{◌<◌, ◌/◌, ◌%◌, [], None, length, get_or, arith, sym, ap, ◌∙◌}
use Rattle.std.proofs.lemmas.Bool.{ltb-true, ltb-false}
use Rattle.std.proofs.lemmas.List.{get_or_default}
use Rattle.ft_paged.specs.declared.TheConstants.{PAGE_LEN}
use Rattle.ft_paged.proofs.Groups.{group-get, group-none, stands-in}
use Rattle.ft_paged.proofs.group.Group.get.Goals as goal

pub returns-in_err-get : goal.returns-in_err-get
returns-in_err-get g c =
    let page = c.args.place / PAGE_LEN in let within = c.args.place % PAGE_LEN in
    let past = ltb-false page (length c.deref.result.now) (sym c.in_err-get.ensures.lookup.0) in let long = ap length c.deref.ensures.value in
    c.from_residual.ensures ∙ sym (ap (λ xs. get_or xs c.args.place None) (sym c.self.view_is) ∙ group-none c.self.inside.pages.items page within c.args.place c.self.invariant.whole (stands-in c.args.place) (omega arith))

pub returns : goal.returns
returns g c =
    let page = c.args.place / PAGE_LEN in let within = c.args.place % PAGE_LEN in
    let lt = ltb-true page (length c.deref.result.now) (sym c.in_ok-get.ensures.lookup.0) in let long = ap length c.deref.ensures.value in
    let there : page < length c.self.inside.pages.items = omega arith in
    c.get-2.ensures ∙ ap (λ p. get_or p within None) (c.in_ok-get.ensures.lookup.1 ∙ ap (λ ps. get_or ps page c.in_ok-get.field-0.now) c.deref.ensures.value ∙ get_or_default c.self.inside.pages.items page c.in_ok-get.field-0.now [] there)
    ∙ group-get c.self.inside.pages.items page within c.args.place c.self.invariant.whole (stands-in c.args.place) there ∙ ap (λ xs. get_or xs c.args.place None) c.self.view_is
