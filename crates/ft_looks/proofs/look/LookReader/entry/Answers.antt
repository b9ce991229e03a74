use Rattle.std.proofs.Common.{◌∙◌, ap, sym, subst}
use Rattle.std.specs.Option.{option_copied}
use Rattle.ft_cells.specs.Cells.{Cells}
use Rattle.ft_cells.specs.Entries.{entry_at}
use Rattle.ft_cells.specs.declared.cell.Cell.TheVariants.{Entry}
use Rattle.ft_tree.specs.Views.{view_of}
use Rattle.ft_tree.specs.Fronts.{LeadsIfAny, entries_of}
use Rattle.ft_posix.specs.Accesses.{with_looks}
use Rattle.ft_posix.specs.Looking.{Looking}
use Rattle.ft_looks.proofs.Resting.{noted-too, reads-after}
use Rattle.ft_looks.proofs.look.LookReader.entry.Goals as goal

pub invariant_of-self-2 : goal.invariant_of-self-2
invariant_of-self-2 c = (
  subst (λ (t : Cells). LeadsIfAny (view_of t) (option_copied c.self.inside.front)) (sym c.entry.ensures.same) c.self.invariant.0,
  reads-after c.read_entry.result c.self.inside.touched c.read_entry.new.self (Entry (entry_at c.args.dir c.args.name.now)) c.self.invariant.1 c.read_entry.ensures.noted c.read_entry.ensures.wanting,
)

pub returns-clause-noted : goal.returns-clause-noted
returns-clause-noted c =
    let front = entries_of (option_copied c.self.inside.front) in
    ap (λ (t : Cells). let l : Looking = record { cells = t; modes = with_looks c.read_entry.new.self front; front = front } in l) c.entry.ensures.same
    ∙ noted-too c.self.inside.cursor front c.self.inside.touched c.read_entry.new.self (Entry (entry_at c.args.dir c.args.name.now)) c.args.self.now c.self.view_is c.in_ok-read_entry.ensures.noted
