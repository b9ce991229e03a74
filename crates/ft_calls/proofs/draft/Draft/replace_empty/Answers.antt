use Rattle.std.proofs.Common.{◌≡◌, true, None, [], ◌∷◌, sym, ◌∙◌, rules}
use Rattle.ft_cells.specs.declared.node.Node.TheVariants.{Dir as DirNode}
use Rattle.ft_cells.specs.Cells.{names_of}
use Rattle.ft_cells.specs.declared.cell.Cell.TheVariants as cell
use Rattle.ft_posix.specs.Outcomes.{sets}
use Rattle.ft_posix.specs.Links.{renamed, with_parent}
use Rattle.ft_posix.specs.Looking.{is_none_of}
use Rattle.ft_posix.proofs.Moving.{comes-more, bare-replaced}
use Rattle.ft_calls.proofs.draft.Draft.replace_empty.Goals as goal

pub returns-clause-plans : goal.returns-clause-plans
returns-clause-plans c =
    let old = c.args.old in
    let new = c.args.new in
    let cells = c.args.self.now.look.now.cells in
    let gone = sets (cell.DirAttributes c.args.replaced) None ∷ sets (cell.Parent c.args.replaced) None ∷ [] in
    let first = c.push_rename.new.edits in
    let second = c.dir_gone.new.edits in
    let bare : is_none_of (names_of cells c.args.replaced) ≡ true = search rules in
    let both = comes-more cells first second (renamed old (DirNode c.args.number) new []) gone (c.in_ok-dir_gone.ensures cells) (c.in_ok-push_rename.ensures cells) in
    let all = comes-more cells second c.with_parent.new.edits _ (with_parent c.args.number old.dir new.dir) (c.in_ok-with_parent.ensures cells) both in
    (all ∙ sym (bare-replaced old c.args.number new c.args.replaced (names_of cells c.args.replaced) bare), c.in_ok-is_empty_dir.ensures.1)
