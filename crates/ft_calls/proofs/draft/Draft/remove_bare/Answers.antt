use Rattle.std.proofs.Common.{◌≡◌, true, None, [], ◌∷◌, ◌++◌, sym, ap, ◌∙◌, rules}
use Rattle.ft_cells.specs.Cells.{names_of}
use Rattle.ft_cells.specs.declared.cell.Cell.TheVariants as cell
use Rattle.ft_posix.specs.declared.call.Reply.TheVariants as reply
use Rattle.ft_posix.specs.declared.intent.Edit.TheVariants.{Entry}
use Rattle.ft_posix.specs.Outcomes.{sets}
use Rattle.ft_posix.specs.Computes.{writes_of}
use Rattle.ft_posix.specs.Looking.{is_none_of}
use Rattle.ft_posix.proofs.Moving.{writes_of-append}
use Rattle.ft_calls.proofs.More.{bare-removed}
use Rattle.ft_calls.proofs.draft.Draft.remove_bare.Goals as goal

pub returns-clause-plans : goal.returns-clause-plans
returns-clause-plans c =
    let cells = c.args.self.now.look.now.cells in
    let gone = sets (cell.DirAttributes c.args.number) None ∷ sets (cell.Parent c.args.number) None ∷ [] in
    let bare : is_none_of (names_of cells c.args.number) ≡ true = search rules in
    let edits : writes_of cells c.push.new.self ≡ gone ++ sets (cell.Entry c.args.entry) None ∷ [] =
    ap (writes_of cells) c.in_ok-push.ensures ∙ writes_of-append cells c.dir_gone.new.edits (Entry c.args.entry None ∷ [])
    ∙ ap (λ ws. ws ++ sets (cell.Entry c.args.entry) None ∷ []) (c.in_ok-dir_gone.ensures cells ∙ ap (λ es. writes_of cells es ++ gone) c.requires) in
    (ap (λ ws. record { reply = reply.Done; writes = ws }) edits ∙ sym (bare-removed c.args.entry c.args.number (names_of cells c.args.number) bare), c.in_ok-is_empty_dir.ensures.1)
