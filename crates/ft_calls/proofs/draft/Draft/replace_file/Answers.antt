use Rattle.std.proofs.Common.{◌≡◌, ◌-◌, ℕ, [], ◌∷◌, ◌++◌, ap, ◌∙◌, rules}
use Rattle.ft_cells.specs.declared.cell.Cell.TheVariants as cell
use Rattle.ft_cells.specs.Cells.{links_of}
use Rattle.ft_posix.specs.Outcomes.{sets}
use Rattle.ft_posix.specs.Links.{renamed}
use Rattle.ft_posix.specs.declared.intent.Edit.TheVariants.{Links}
use Rattle.ft_posix.specs.Computes.{writes_of}
use Rattle.ft_posix.proofs.Moving.{comes-more, writes_of-append}
use Rattle.ft_calls.proofs.draft.Draft.replace_file.Goals as goal

pub returns-clause-plans : goal.returns-clause-plans
returns-clause-plans c =
    let old = c.args.old in
    let new = c.args.new in
    let cells = c.args.self.now.look.now.cells in
    let first = c.push_rename.new.edits in
    let second = c.push.new.self in
    let left : c.saturating_sub.result ≡ links_of cells c.args.replaced - 1 = search rules in
    let edits : writes_of cells second ≡ writes_of cells first ++ sets (cell.Links c.args.replaced) (links_of cells c.args.replaced - 1) ∷ [] =
    ap (writes_of cells) c.in_ok-push.ensures ∙ writes_of-append cells first (Links c.args.replaced c.saturating_sub.result ∷ [])
    ∙ ap (λ (n : ℕ). writes_of cells first ++ sets (cell.Links c.args.replaced) n ∷ []) left in
    (comes-more cells first second (renamed old c.args.moved new []) _ edits (c.in_ok-push_rename.ensures cells), c.in_ok-links.ensures.1)
