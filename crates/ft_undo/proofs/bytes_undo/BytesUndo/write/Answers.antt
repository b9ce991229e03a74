use Rattle.std.proofs.Common.{sym, subst, ◌∙◌}
use Rattle.std.proofs.lemmas.Result.{on_err_weaker}
use Rattle.ft_cells.specs.Cells.{HasFilePlace}
use Rattle.ft_posix.proofs.Setting.{setting}
use Rattle.ft_posix.proofs.Restoring.{restoring}
use Rattle.ft_undo.proofs.Undoing.{placed-still, changed-back}
use Rattle.ft_undo.proofs.bytes_undo.BytesUndo.write.Goals as goal

pub keep-requires-clause-place : goal.keep-requires-clause-place
keep-requires-clause-place c =
    placed-still setting restoring c.args.tree.now c.write_bytes.new.self c.again.result c.number.result _ (subst (HasFilePlace c.args.tree.now) (sym c.again.ensures) c.requires.place) c.in_ok-undo.ensures.ok (c.number.ensures ∙ sym c.again.ensures)

pub returns-clause-err : goal.returns-clause-err
returns-clause-err c =
    on_err_weaker c.keep.result (λ back. back
    ∙ changed-back setting restoring c.args.tree.now c.write_bytes.new.self c.again.result c.number.result _ c.in_ok-undo.undo (subst (HasFilePlace c.args.tree.now) (sym c.again.ensures) c.requires.place) c.in_ok-undo.ensures.ok (c.number.ensures ∙ sym c.again.ensures)
    c.in_ok-undo.ensures.undo) c.keep.ensures.err
