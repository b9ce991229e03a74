use Rattle.std.proofs.Common.{ap, ◌∙◌}
use Rattle.std.proofs.lemmas.Result.{on_err_weaker, IfOk-weaker}
use Rattle.ft_cells.proofs.CellViews.{put-same}
use Rattle.ft_tree.proofs.Changes.{change-put}
use Rattle.ft_tree.proofs.tree.Tree.set_size.Goals as goal

-- the file is the one that was there
pub returns-clause-undo : goal.returns-clause-undo
returns-clause-undo c =
    rw (← c.file.view_is)
    (IfOk-weaker c.set_len.result _ _
    (λ undo is. is ∙ change-put (record { limits = c.self.inside.limits; directories = c.self.inside.inodes.directories; files = c.self.inside.inodes.files; opens = c.self.inside.opens }) c.args.self.now c.file.inside.number c.in-Some.stored.now c.set_len.new.self c.self.view_is c.in-Some.ensures.value)
    c.set_len.ensures.undo)

-- the file is written as it was
pub returns-clause-err : goal.returns-clause-err
returns-clause-err c =
    on_err_weaker c.set_len.result
    (λ same. ap (λ m. record { limits = c.self.inside.limits; directories = c.self.inside.inodes.directories; files = m; opens = c.self.inside.opens }) (put-same c.self.inside.inodes.files c.file.inside.number c.in-Some.stored.now c.set_len.new.self c.in-Some.ensures.value same) ∙ c.self.view_is)
    c.set_len.ensures.err
