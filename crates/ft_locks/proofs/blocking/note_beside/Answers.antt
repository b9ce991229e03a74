use Rattle.std.proofs.Common.{◌||◌, ap, sym, ◌∙◌}
use Rattle.std.specs.FinMap as finite
use Rattle.ft_cells.specs.declared.cell.Cell.TheVariants.{Names}
use Rattle.ft_lock_rules.specs.Cells.{Cells}
use Rattle.ft_lock_rules.specs.Blocking.{against, beside}
use Rattle.ft_locks.proofs.Nameless.{none_beside}
use Rattle.ft_locks.proofs.blocking.note_beside.Goals as goal

pub returns-then-not-may_have_names : goal.returns-then-not-may_have_names
returns-then-not-may_have_names c = λ u.
    let m = c.args.holdings.now.cells in
    let d = c.in-Entry.entry.dir in
    let counted = against c.args.asker.now.rule c.args.forest.now c.args.asker.now.txn in
    none_beside c.args.found.now m d c.args.access.now.mode counted
    (ap (λ (cells : Cells). finite.get cells (Names d)) (sym c.cells.ensures) ∙ c.may_have_names.ensures c.if-not-may_have_names.true d) u
    ∙ ap (λ cell. finite.contains_key c.args.found.now u || beside counted m cell c.args.access.now.mode u) (sym c.in-Entry.is)
