-- What edits of different cells leave.
use Rattle.std.proofs.Common.{◌≡◌, false, List, [], ◌∷◌, refl, ap, ◌∙◌}
use Rattle.ft_cells.specs.declared.cell.Cell.{Cell}
use Rattle.ft_cells.specs.CellOrder.{same_cell}
use Rattle.ft_cells.specs.Cells.{Cells}
use Rattle.ft_tree.specs.Held.{held}
use Rattle.ft_posix.specs.declared.intent.Edit.{Edit}
use Rattle.ft_posix.specs.declared.intent.Edit.TheVariants.{Entry, Parent, Links, Overwrite, Resize, Open, DirAttributes, FileAttributes, Time}
use Rattle.ft_posix.specs.Accesses.{written_cell}
use Rattle.ft_posix.specs.Stored.{put}
use Rattle.ft_posix.specs.Computes.{write_of}
use Rattle.ft_posix.specs.Edits.{edit_cell, IsOther, SameOn}
use Rattle.ft_posix.proofs.Held.{put-kept}

-- an edit writes its cell
pub write-cell : (s : Cells) (e : Edit) → written_cell (write_of s e) ≡ edit_cell e
write-cell s (Entry entry to) = refl
write-cell s (Parent d to) = refl
write-cell s (Links i to) = refl
write-cell s (Overwrite i at bytes) = refl
write-cell s (Resize i size) = refl
write-cell s (Open f to) = refl
write-cell s (DirAttributes d to) = refl
write-cell s (FileAttributes i to) = refl
write-cell s (Time i to) = refl

-- an edit keeps the other cells
edit-kept : (s : Cells) (e : Edit) (c : Cell) → same_cell (edit_cell e) c ≡ false → held (put s (write_of s e)) c ≡ held s c
edit-kept s e c h = put-kept s (write_of s e) c (ap (λ d. same_cell d c) (write-cell s e) ∙ h)

pub same-on : (s : Cells) (es : List Edit) → SameOn s s es
same-on s [] = tt
same-on s (e ∷ es) = (refl, same-on s es)

pub same-edited : (s t : Cells) (e : Edit) (es : List Edit) → IsOther (edit_cell e) es → SameOn s t es → SameOn (put s (write_of s e)) t es
same-edited s t e [] other h = tt
same-edited s t e (f ∷ fs) other h = (edit-kept s e (edit_cell f) other.0 ∙ h.0, same-edited s t e fs other.1 h.1)
