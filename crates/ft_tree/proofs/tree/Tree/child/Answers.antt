use Rattle.std.proofs.Common.{ap, ◌∙◌}
use Rattle.std.specs.Option.{option_map}
use Rattle.ft_cells.specs.Cells.{Cells, entry_of}
use Rattle.ft_cells.proofs.CellViews.{entry-not_stored}
use Rattle.ft_tree.proofs.tree.Tree.child.Goals as goal

-- there is no such directory
pub returns-in_err-directory : goal.returns-in_err-directory
returns-in_err-directory c =
    ap (option_map (λ child. child.0)) c.from_residual.ensures ∙ entry-not_stored (record { limits = c.self.inside.limits; directories = c.self.inside.inodes.directories; files = c.self.inside.inodes.files; opens = c.self.inside.opens }) c.args.dir c.args.name.now c.in_err-directory.ensures
    ∙ ap (λ (cells : Cells). entry_of cells c.args.dir c.args.name.now) c.self.view_is
