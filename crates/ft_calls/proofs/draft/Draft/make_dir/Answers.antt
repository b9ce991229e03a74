use Rattle.std.proofs.Common.{◌≡◌, [], ◌∷◌, List, Some, None, sym, ap, ◌∙◌, rules}
use Rattle.ft_cells.specs.declared.cell.Cell.TheVariants as cell
use Rattle.ft_cells.specs.declared.node.Node.TheVariants.{Dir as DirNode}
use Rattle.ft_cells.specs.declared.node.PathEnd.{PathEnd}
use Rattle.ft_cells.specs.declared.node.PathEnd.TheVariants.{Named}
use Rattle.ft_cells.specs.Looks.{answer}
use Rattle.ft_tree.specs.Views.{view_of}
use Rattle.ft_posix.specs.declared.call.Reply.TheVariants as reply
use Rattle.ft_posix.specs.declared.intent.Edit.{Edit}
use Rattle.ft_posix.specs.declared.intent.Edit.TheVariants.{Parent, Entry}
use Rattle.ft_posix.specs.declared.intent.PlannedReply.TheVariants.{Done}
use Rattle.ft_posix.specs.Attributes.{dir_mode}
use Rattle.ft_posix.specs.Dirs.{make_dir}
use Rattle.ft_posix.specs.Outcomes.{Outcome, sets}
use Rattle.ft_posix.specs.Computes.{outcome_of}
use Rattle.ft_posix.specs.Looking.{noted}
use Rattle.ft_posix.proofs.Moving.{done}
use Rattle.ft_calls.proofs.More.{tells-more}
use Rattle.ft_calls.proofs.draft.Draft.make_dir.Goals as goal

-- the edits are those of a directory, and of its mode behind them
pub returns-clause-plans : goal.returns-clause-plans
returns-clause-plans c =
    let at = c.in-Named-default-None-default in
    let k = c.args.self.now.stamp in
    let old = c.args.self.now.look.now in
    let spot : c.args.spot ≡ Named at.entry None at.slash = search rules in
    let first : c.push-2.new.self ≡ Parent k (Some at.entry.dir) ∷ Entry at.entry (Some (DirNode k)) ∷ [] = search rules in
    let plain : Outcome = record { reply = reply.Done; writes = sets (cell.Parent k) (Some at.entry.dir) ∷ sets (cell.Entry at.entry) (Some (DirNode k)) ∷ [] } in (
      tells-more old.cells Done c.push-2.new.self c.set_dir_mode.new.edits plain (dir_mode k c.args.mode) (c.in_ok-set_dir_mode.ensures old.cells) (ap (λ (es : List Edit). outcome_of old.cells (done es)) first)
          ∙ ap (λ (s : PathEnd). answer (make_dir k c.args.mode s) (view_of old.cells)) (sym spot),
      ap (λ (s : PathEnd). noted old (make_dir k c.args.mode s)) (sym spot),
    )
