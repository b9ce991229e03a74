use Rattle.std.proofs.Common.{◌+◌, ◌-◌, ◌*◌, length, drop, arith, sym, ap, ◌∙◌}
use Rattle.ft_paged.specs.declared.TheConstants.{PAGE_LEN, GROUP_LEN}
use Rattle.ft_paged.specs.Paged.{numbered, joined_places}
use Rattle.ft_paged.proofs.Pages.{joined-length}
use Rattle.ft_paged.proofs.PagedWalks.{none-behind}
use Rattle.ft_paged.proofs.group.Group.first_from.Goals as goal

pub returns-clause-first : goal.returns-clause-first
returns-clause-first g c = λ base.
    let pages = c.self.inside.pages.items in
    let long = joined-length PAGE_LEN pages c.self.invariant.whole in
    let past = c.loop-place-test.false in
    c.loop-place.invariant base
    ∙ ap (λ xs. numbered (base + c.loop-place.place) (drop c.loop-place.place xs)) (sym c.self.view_is)
    ∙ none-behind (joined_places pages) (GROUP_LEN - PAGE_LEN * length pages) c.loop-place.place (base + c.loop-place.place) (omega arith)
