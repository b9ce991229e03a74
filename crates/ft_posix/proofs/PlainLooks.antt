-- The accesses on the plain tree are those on the cells.
use Rattle.std.proofs.Common.{List, [], ◌∷◌, sym, ap, ◌∙◌}
use Rattle.std.specs.FinMap.{len, empty}
use Rattle.ft_cells.specs.declared.cell.Cell.{Cell}
use Rattle.ft_cells.specs.Cells.{Cells, directory_count}
use Rattle.ft_tree.specs.Views.{view_of}
use Rattle.ft_cells.specs.Looks.{Agree, answer, looked_at, answer-agree, looked_at-agree}
use Rattle.ft_cells.specs.Plain.{view_in}
use Rattle.ft_tree.specs.Sound.{AreSoundCells}
use Rattle.ft_tree.specs.Tidy.{tidy}
use Rattle.ft_posix.specs.Accesses.{listed, with_looks, with_writes}
use Rattle.ft_posix.specs.Steps.{steps}
use Rattle.ft_posix.proofs.Accessed.{with_accesses-parts}
use Rattle.ft_posix.proofs.Climbing.{stored-enough, dirs-enough, steps-alike}
use Rattle.ft_posix.proofs.Looked.{AllShown, call-looks}
use Rattle.ft_posix.proofs.Shown.{cell-shown}
use Rattle.ft_posix.specs.RunLaws.{PlainAccessesLaw}

-- the plain tree shows what the cells show, where all of it is shown
all-shown : (cells : Cells) → AreSoundCells cells → (cs : List Cell) → AllShown cells cs → Agree (view_of cells) (view_in (tidy cells)) cs
all-shown cells sound [] shown = tt
all-shown cells sound (c ∷ cs) shown = (sym (cell-shown cells sound c shown.0), all-shown cells sound cs shown.1)

-- so the accesses are the same
pub plain_accesses : PlainAccessesLaw
plain_accesses cells k call sound =
    let n = len (tidy cells).dirs in
    let s = steps cells.limits n k call in
    let agree = all-shown cells sound (looked_at s (view_of cells)) (call-looks cells.limits cells sound n k call) in
    let alike = steps-alike cells.limits cells sound.tree n (directory_count cells) (dirs-enough cells sound) (stored-enough cells sound.tree) k call in
    ap listed (with_accesses-parts s empty (view_in (tidy cells))
    ∙ ap (λ cs. with_writes (with_looks empty cs) (answer s (view_in (tidy cells))).writes) (sym (looked_at-agree s (view_of cells) (view_in (tidy cells)) agree) ∙ alike.1)
    ∙ ap (λ o. with_writes (with_looks empty (looked_at (steps cells.limits (directory_count cells) k call) (view_of cells))) o.writes) (sym (answer-agree s (view_of cells) (view_in (tidy cells)) agree) ∙ alike.0)
    ∙ sym (with_accesses-parts (steps cells.limits (directory_count cells) k call) empty (view_of cells)))
