use Rattle.std.proofs.Common.{◌≡◌, ℕ, List, [], ◌∷◌, Some, None, false, sym, ap, ◌∙◌, rules, arith}
use Rattle.ft_body.specs.declared.TheConstants.{LARGEST_SIZE}
use Rattle.ft_body.specs.Bytes.{fitting, written}
use Rattle.ft_cells.specs.declared.cell.Cell.TheVariants as cell
use Rattle.ft_cells.specs.declared.node.Form.TheVariants.{Link as LinkForm}
use Rattle.ft_cells.specs.declared.node.Node.TheVariants.{File as FileNode}
use Rattle.ft_cells.specs.declared.node.PathEnd.{PathEnd}
use Rattle.ft_cells.specs.declared.node.PathEnd.TheVariants.{Named}
use Rattle.ft_cells.specs.Cells.{bytes_of, untimed}
use Rattle.ft_cells.specs.Looks.{answer}
use Rattle.ft_tree.specs.Views.{view_of}
use Rattle.ft_posix.specs.declared.call.Reply.TheVariants as reply
use Rattle.ft_posix.specs.declared.intent.Edit.{Edit}
use Rattle.ft_posix.specs.declared.intent.Edit.TheVariants.{Links, Overwrite, Entry}
use Rattle.ft_posix.specs.declared.intent.PlannedReply.TheVariants.{Done}
use Rattle.ft_posix.specs.Outcomes.{Outcome, sets}
use Rattle.ft_posix.specs.Computes.{outcome_of}
use Rattle.ft_posix.specs.Looking.{noted}
use Rattle.ft_posix.specs.Symlinks.{make_link}
use Rattle.ft_calls.proofs.Targets.{written-new}
use Rattle.ft_calls.proofs.draft.Draft.make_link.Goals as goal

-- the edits are those of a link, and its bytes are the target, since nothing stood there
pub returns-clause-plans : goal.returns-clause-plans
returns-clause-plans c =
    let at = c.in-Named-default-None-default in
    let k = c.args.self.now.stamp in
    let old = c.args.self.now.look.now in
    let spot : c.args.spot ≡ Named at.entry None false = search rules in
    let edits : c.push-3.new.self ≡ Links k 1 ∷ Overwrite k 0 c.args.target ∷ Entry at.entry (Some (FileNode LinkForm k)) ∷ [] = search rules in
    let new : List ℕ → Outcome = λ bytes. record { reply = reply.Done; writes = sets (cell.Links k) 1 ∷ sets (cell.Bytes k) (untimed bytes) ∷ sets (cell.Entry at.entry) (Some (FileNode LinkForm k)) ∷ [] } in
    let target : written (bytes_of old.cells k) 0 (fitting LARGEST_SIZE c.args.target.now 0) ≡ c.args.target.now = ap (λ was. written was 0 (fitting LARGEST_SIZE c.args.target.now 0)) c.requires.fresh ∙ written-new c.args.target.now (omega (arith, c.requires.short)) in (
      ap (λ (es : List Edit). outcome_of old.cells (record { told = Done; edits = es })) edits ∙ ap new target ∙ ap (λ (s : PathEnd). answer (make_link k c.args.target.now s) (view_of old.cells)) (sym spot),
      ap (λ (s : PathEnd). noted old (make_link k c.args.target.now s)) (sym spot),
    )
