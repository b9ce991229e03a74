use Rattle.std.proofs.Common.{ap, ◌∙◌}
use Rattle.ft_cells.specs.Nodes.{with_kinds}
use Rattle.ft_cells.specs.Cells.{Cells, names_of}
use Rattle.ft_cells.proofs.CellViews.{names-not_stored}
use Rattle.ft_tree.proofs.tree.Tree.names.Goals as goal

-- there is no such directory
pub returns-in-None : goal.returns-in-None
returns-in-None c =
    c.new.ensures.items
    ∙ ap with_kinds (names-not_stored (record { limits = c.self.inside.limits; directories = c.self.inside.inodes.directories; files = c.self.inside.inodes.files; opens = c.self.inside.opens }) c.args.dir c.in-None.ensures ∙ ap (λ (cells : Cells). names_of cells c.args.dir) c.self.view_is)
