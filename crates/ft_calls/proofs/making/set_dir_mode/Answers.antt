use Rattle.std.proofs.Common.{◌≡◌, Option, Some, [], ◌∷◌, ◌++◌, sym, ap, ◌∙◌, rules}
use Rattle.ft_cells.specs.declared.attributes.Attributes.{Attributes}
use Rattle.ft_posix.specs.declared.intent.Edit.TheVariants.{DirAttributes}
use Rattle.ft_posix.specs.Attributes.{dir_mode}
use Rattle.ft_posix.specs.Computes.{writes_of}
use Rattle.ft_posix.proofs.Moving.{writes_of-append}
use Rattle.ft_calls.proofs.making.set_dir_mode.Goals as goal

pub returns : goal.returns
returns c = λ cells.
    let first = c.args.edits.now in
    let kept = c.in_ok-new.ensures.value ∙ c.changed.ensures in
    let mode : c.args.mode ≡ Some c.in-Some.mode = search rules in
    ap (writes_of cells) c.in_ok-push.ensures ∙ writes_of-append cells first (DirAttributes c.args.dir c.in_ok-new.field-0 ∷ [])
    ∙ ap (λ (to : Option Attributes). writes_of cells first ++ writes_of cells (DirAttributes c.args.dir to ∷ [])) kept
    ∙ ap (λ m. writes_of cells first ++ dir_mode c.args.dir m) (sym mode)
