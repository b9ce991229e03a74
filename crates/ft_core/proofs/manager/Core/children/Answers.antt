use Rattle.std.proofs.Common.{◌∙◌, ◌++◌, ap, subst}
use Rattle.ft_core.specs.Journals.{state_of}
use Rattle.ft_core.specs.Reports.{AreLiveChildren, with_parents}
use Rattle.ft_core.proofs.Gathered.{state-is}
use Rattle.ft_core.proofs.Known.{call_laws}
use Rattle.ft_core.proofs.Families.{ordered, all-children}
use Rattle.ft_core.proofs.manager.Core.children.Goals as goal

pub returns : goal.returns
returns c =
    let i = c.self.inside in
    let forest = i.parts.forest in
    let live = c.in_ok-live in
    let listed = c.in_ok-list_with_parents.ensures ∙ ap (λ xs. xs ++ with_parents forest c.as_slice.result.now) c.new-list.ensures.items ∙ ap (with_parents forest) c.as_slice.ensures.value in
    subst (λ s. AreLiveChildren s c.sort.new.self.items) (state-is c.self.view_is)
    (all-children call_laws (state_of forest i.journal) i.parts i.journal c.self.invariant.0 live.live.items c.list_with_parents.new.list.items c.sort.new.self.items live.ensures.sound live.ensures.all listed
    (ordered forest live.live.items c.list_with_parents.new.list.items c.sort.new.self.items live.ensures.rising listed c.sort.ensures.permutation c.in_ok-sort.ensures.sorted))
