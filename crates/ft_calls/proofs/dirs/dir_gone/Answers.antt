use Rattle.std.proofs.Common.{◌≡◌, None, Option, [], ◌∷◌, ◌++◌, ap, ◌∙◌}
use Rattle.std.proofs.lemmas.List.{append_assoc}
use Rattle.ft_cells.specs.declared.attributes.Attributes.{Attributes}
use Rattle.ft_posix.specs.declared.intent.Edit.TheVariants.{Parent, DirAttributes}
use Rattle.ft_posix.specs.Computes.{writes_of}
use Rattle.ft_posix.proofs.Moving.{writes_of-append}
use Rattle.ft_calls.proofs.dirs.dir_gone.Goals as goal

pub returns : goal.returns
returns c = λ cells.
    let first = c.args.edits.now in
    let both : c.push-2.new.self ≡ first ++ DirAttributes c.args.dir c.none.result ∷ Parent c.args.dir None ∷ [] = c.in_ok-push-2.ensures ∙ ap (λ es. es ++ Parent c.args.dir None ∷ []) c.in_ok-push.ensures ∙ append_assoc first (DirAttributes c.args.dir c.none.result ∷ []) (Parent c.args.dir None ∷ []) in
    ap (writes_of cells) both ∙ writes_of-append cells first (DirAttributes c.args.dir c.none.result ∷ Parent c.args.dir None ∷ [])
    ∙ ap (λ (none : Option Attributes). writes_of cells first ++ writes_of cells (DirAttributes c.args.dir none ∷ Parent c.args.dir None ∷ [])) c.none.ensures
