use Rattle.std.proofs.Common.{ap, ◌∙◌}
use Rattle.std.proofs.lemmas.Result.{on_err_weaker}
use Rattle.ft_cells.proofs.CellViews.{put-same}
use Rattle.ft_tree.proofs.tree.Tree.set_entry.Goals as goal

-- the directory is written as it was
pub returns-clause-err : goal.returns-clause-err
returns-clause-err c =
    on_err_weaker c.set_entry.result
    (λ same. ap (λ m. record { limits = c.self.inside.limits; directories = m; files = c.self.inside.inodes.files; opens = c.self.inside.opens }) (put-same c.self.inside.inodes.directories c.args.entry.dir c.in-Some.directory.now c.set_entry.new.self c.in-Some.ensures.value same) ∙ c.self.view_is)
    c.set_entry.ensures.err
