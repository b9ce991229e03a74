use Rattle.std.proofs.Common.{sym, subst}
use Rattle.std.specs.Option.{option_copied}
use Rattle.ft_cells.specs.Cells.{Cells}
use Rattle.ft_tree.specs.Views.{view_of}
use Rattle.ft_tree.specs.Fronts.{LeadsIfAny}
use Rattle.ft_posix.specs.Besides.{AreReads}
use Rattle.ft_posix.proofs.Fronted.{reads-none}
use Rattle.ft_looks.proofs.look.Look.behind.Goals as goal

pub invariant_of-result : goal.invariant_of-result
invariant_of-result c = (
  subst (λ (t : Cells). LeadsIfAny (view_of t) (option_copied c.args.front)) (sym c.new.ensures) c.requires,
  subst AreReads (sym c.new-2.ensures) reads-none,
)
