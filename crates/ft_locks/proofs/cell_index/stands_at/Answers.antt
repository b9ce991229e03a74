use Rattle.std.proofs.Common.{Some, is_some, ap, sym, ◌∙◌}
use Rattle.std.proofs.lemmas.Bool.{false≢true}
use Rattle.ft_cells.specs.CellOrder.{same_cell-is}
use Rattle.ft_locks.proofs.Slots.{at-there, at-none, stands_if}
use Rattle.ft_locks.proofs.cell_index.stands_at.Goals as goal

pub returns-in-Some : goal.returns-in-Some
returns-in-Some c = (
  λ e. at-there c.args.locked.now c.args.key c.in-Some.there.now (sym c.in-Some.ensures) ∙ ap (λ x. Some x) (same_cell-is _ _ (sym c.eq.ensures ∙ e)),
  λ is. c.eq.ensures ∙ stands_if c.args.locked.now c.args.key c.in-Some.there.now c.args.cell.now (sym c.in-Some.ensures) is,
)

pub returns-in-None : goal.returns-in-None
returns-in-None c = (
  λ e. absurd (false≢true e),
  λ is. absurd (false≢true (ap is_some (sym (at-none c.args.locked.now c.args.key (sym c.in-None.ensures)) ∙ is))),
)
