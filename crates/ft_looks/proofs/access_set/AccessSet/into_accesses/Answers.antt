use Rattle.std.proofs.Common.{◌≡◌, cond, ap, ◌∙◌, subst, rules, of_calls}
use Rattle.std.proofs.lemmas.Fn.{always_returns_same}
use Rattle.std.specs.Ordering.{eq_by_cmp}
use Rattle.ft_cells.specs.CellOrder.{cell_cmp}
use Rattle.ft_posix.specs.Accesses.{listed}
use Rattle.ft_posix.proofs.Placing.{access}
use Rattle.ft_looks.specs.Notes.{AreInOrderIf}
use Rattle.ft_looks.proofs.Noted.{in_order-listed}
use Rattle.ft_looks.proofs.Merging.{stands_before, sorts_by_cell, merged-listed}
use Rattle.ft_looks.proofs.access_set.AccessSet.into_accesses.Goals as goal

pub returns-then-is_in_order : goal.returns-then-is_in_order
returns-then-is_in_order c = in_order-listed c.self.inside.list.items (subst (λ b. AreInOrderIf b c.self.inside.list.items) c.if-is_in_order.true c.self.invariant) ∙ ap listed c.self.view_is

pub returns : goal.returns
returns c =
    let compares = always_returns_same _ _ _ (λ a r f' k. search (rules, of_calls)) in
    merged-listed _ (λ s x k b t x' k' h.
    let same : b ≡ eq_by_cmp cell_cmp x.cell k.cell = search (rules, of_calls) in
    let kept : k' ≡ cond b (access k.cell x.mode) k = search (rules, of_calls) in
    let later : x' ≡ x = search (rules, of_calls) in
    (same, kept, later)) _ c.self.inside.list.items _ _ (c.in_ok-sort_by.ensures.sorted stands_before sorts_by_cell compares) (c.sort_by.ensures.stable stands_before sorts_by_cell compares) c.dedup_by.ensures.filtered
    ∙ ap listed c.self.view_is
