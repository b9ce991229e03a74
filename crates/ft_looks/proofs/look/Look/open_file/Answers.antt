use Rattle.std.proofs.Common.{sym, subst}
use Rattle.std.specs.Option.{option_copied}
use Rattle.ft_cells.specs.Cells.{Cells}
use Rattle.ft_tree.specs.Views.{view_of}
use Rattle.ft_tree.specs.Fronts.{LeadsIfAny}
use Rattle.ft_looks.proofs.look.Look.open_file.Goals as goal

pub invariant_of-self : goal.invariant_of-self
invariant_of-self c = (subst (λ (t : Cells). LeadsIfAny (view_of t) (option_copied c.self.inside.front)) (sym c.open_file.ensures.same) c.self.invariant.0, c.self.invariant.1)
