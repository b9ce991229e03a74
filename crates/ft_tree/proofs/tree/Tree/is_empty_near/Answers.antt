use Rattle.std.proofs.Common.{ap, sym, refl, ◌∙◌}
use Rattle.ft_cells.specs.Cells.{Cells, names_of}
use Rattle.ft_cells.proofs.CellViews.{names-not_stored}
use Rattle.ft_tree.proofs.tree.Tree.is_empty_near.Goals as goal

-- there is no such directory
pub returns-in-None : goal.returns-in-None
returns-in-None c =
    (λ _. sym (names-not_stored (record { limits = c.self.inside.limits; directories = c.self.inside.inodes.directories; files = c.self.inside.inodes.files; opens = c.self.inside.opens }) c.args.dir c.in-None.ensures ∙ ap (λ (cells : Cells). names_of cells c.args.dir) c.self.view_is), λ _. refl)
