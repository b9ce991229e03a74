use Rattle.std.proofs.Common.{false, sym, ap, ◌∙◌}
use Rattle.std.specs.FinSet as set
use Rattle.ft_cells.specs.CellOrder.{cell_cmp}
use Rattle.ft_lock_rules.specs.Locks.{is_released}
use Rattle.ft_lock_rules.specs.Seen.{table_of}
use Rattle.ft_lock_rules.proofs.Sweeping.{nothing_released}
use Rattle.ft_locks.proofs.GivenUp.{gone-none, untrue}
use Rattle.ft_locks.proofs.locks.Locks.has_released.Goals as goal

pub returns-else-not-is_empty : goal.returns-else-not-is_empty
returns-else-not-is_empty c = λ none d.
    let t = table_of c.self.inside.holdings.cells c.self.inside.holdings.lists in
    ap (λ x. is_released x d) (sym c.self.view_is)
    ∙ ap (λ x. is_released x d) (gone-none c.self.inside.bulk_keeps_all c.self.inside.bulk t (c.is_empty.ensures c.if-not-is_empty.false))
    ∙ ap (λ s. set.contains s d) (nothing_released c.self.inside.holdings.cells c.self.inside.holdings.lists (c.is_bare.ensures (untrue c.is_bare.result none)))
    ∙ set.contains-empty cell_cmp d
