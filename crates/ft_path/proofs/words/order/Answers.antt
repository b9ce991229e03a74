use Rattle.std.proofs.Common.{sym, ◌∙◌}
use Rattle.ft_path.proofs.Compared.{place_cmp, then_decided, then_tied, cmp_along}
use Rattle.ft_path.proofs.words.order.Goals as goal

pub returns-in-Equal-cmp : goal.returns-in-Equal-cmp
returns-in-Equal-cmp c =
    cmp_along c.cmp-in-Equal-cmp.ensures c.last_eight.ensures c.last_eight-in-Equal-cmp.ensures
    ∙ sym (place_cmp _ _ c.told-place c.told-other c.fits-place c.fits-other
    ∙ then_tied _ _ (sym (cmp_along c.cmp.ensures c.first_eight.ensures c.first_eight-2.ensures) ∙ c.in-Equal.is)
    ∙ then_tied _ _ (sym (cmp_along c.cmp-in-Equal.ensures c.second_eight.ensures c.second_eight-in-Equal.ensures) ∙ c.in-Equal-cmp.is))

pub returns-in_default-cmp : goal.returns-in_default-cmp
returns-in_default-cmp c =
    let second = cmp_along c.cmp-in-Equal.ensures c.second_eight.ensures c.second_eight-in-Equal.ensures in
    second
    ∙ sym (place_cmp _ _ c.told-place c.told-other c.fits-place c.fits-other
    ∙ then_tied _ _ (sym (cmp_along c.cmp.ensures c.first_eight.ensures c.first_eight-2.ensures) ∙ c.in-Equal.is)
    ∙ then_decided _ _ (λ tied. c.in_default-cmp.not-Equal (second ∙ tied)))

pub returns-in_default : goal.returns-in_default
returns-in_default c =
    let first = cmp_along c.cmp.ensures c.first_eight.ensures c.first_eight-2.ensures in
    first
    ∙ sym (place_cmp _ _ c.told-place c.told-other c.fits-place c.fits-other
    ∙ then_decided _ _ (λ tied. c.in_default.not-Equal (first ∙ tied)))
