use Rattle.std.proofs.Common.{◌≡◌, true, cond, not, [], ◌∷◌, Some, refl, List, sym, ap, ◌∙◌, rules}
use Rattle.std.specs.Prelude.{◌&&◌}
use Rattle.ft_path.specs.declared.errno.Errno.TheVariants.{ENOENT}
use Rattle.ft_cells.specs.declared.cell.Cell.TheVariants as cell
use Rattle.ft_cells.specs.declared.node.Form.TheVariants.{Regular}
use Rattle.ft_cells.specs.declared.node.Node.TheVariants.{File as FileNode}
use Rattle.ft_cells.specs.Cells.{no_contents}
use Rattle.ft_posix.specs.declared.call.Reply.TheVariants as reply
use Rattle.ft_posix.specs.declared.intent.Edit.{Edit}
use Rattle.ft_posix.specs.declared.intent.Edit.TheVariants.{Links, Resize, Open, Entry}
use Rattle.ft_posix.specs.declared.intent.PlannedReply.TheVariants.{Number}
use Rattle.ft_posix.specs.Attributes.{file_mode}
use Rattle.ft_posix.specs.Files.{description, creates}
use Rattle.ft_posix.specs.Outcomes.{Outcome, sets, failed}
use Rattle.ft_posix.specs.Computes.{outcome_of}
use Rattle.ft_calls.proofs.More.{tells-more}
use Rattle.ft_calls.proofs.draft.Draft.open_missing.Goals as goal

-- the edits are those of a file, and of its mode behind them
pub returns-clause-plans : goal.returns-clause-plans
returns-clause-plans c =
    let k = c.args.self.now.stamp in
    let flags = c.args.flags in
    let entry = c.args.entry in
    let cells = c.args.self.now.look.now.cells in
    let asked : (flags.create && not c.args.slash) ≡ true = search rules in
    let first : c.push-4.new.self ≡ Links k 1 ∷ Resize k 0 ∷ Open k (Some (description flags k)) ∷ Entry entry (Some (FileNode Regular k)) ∷ [] = search rules in
    let plain : Outcome = record {
      reply = reply.Number k;
      writes = sets (cell.Links k) 1 ∷ sets (cell.Bytes k) no_contents ∷ sets (cell.Fd k) (Some (description flags k)) ∷ sets (cell.Entry entry) (Some (FileNode Regular k)) ∷ [];
    } in (
      tells-more cells (Number k) c.push-4.new.self c.set_file_mode.new.edits plain (file_mode k flags.mode) (c.in_ok-set_file_mode.ensures cells) (ap (λ (es : List Edit). outcome_of cells (record { told = Number k; edits = es })) first)
          ∙ ap (λ b. cond b (creates k flags entry) (failed ENOENT)) (sym asked),
      refl,
    )
