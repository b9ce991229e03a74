-- Places stay where cells are written, and what takes writes back has its places.
use Rattle.std.proofs.Common.{◌≡◌, ℕ, List, [], ◌∷◌, Option, Some, None, map, refl, sym, subst}
use Rattle.ft_laws.specs.Lists.{Each}
use Rattle.ft_laws.specs.Effects.{Has, before, write_all}
use Rattle.ft_laws.proofs.Lists.{Each-from, Each-at}
use Rattle.ft_cells.specs.declared.cell.Cell.{Cell}
use Rattle.ft_cells.specs.declared.cell.Cell.TheVariants.{Entry, Names, Parent, Links, Bytes, Fd, DirAttributes, FileAttributes}
use Rattle.ft_cells.specs.declared.open_file.OpenFile.{OpenFile}
use Rattle.ft_cells.specs.Cells.{Cells, open_of, HasFilePlace}
use Rattle.ft_tree.specs.Held.{Holds, held, IsStored}
use Rattle.ft_posix.specs.CellLaws.{SettingLaw}
use Rattle.ft_posix.specs.Outcomes.{Write}
use Rattle.ft_posix.specs.Accesses.{written_cell}
use Rattle.ft_posix.specs.Stored.{put, put_all}
use Rattle.ft_posix.specs.Posix.{posix}
use Rattle.ft_undo.specs.Undone.{AreAsLeft}
use Rattle.ft_core.specs.Kept.{Item, Change, file_is_stored, ArePlaced}

-- writes one after another, as calls in the abstract have them
pub put-write : (s : Cells) (ws : List Write) → put_all s ws ≡ write_all posix s ws
put-write s [] = refl
put-write s (w ∷ ws) = put-write (put s w) ws

pub write-stays : SettingLaw → (s : Cells) (ws : List Change) (x : Cell) → IsStored s x → IsStored (write_all posix s ws) x
write-stays setting s [] x stored = stored
write-stays setting s (w ∷ ws) x stored = write-stays setting (posix.write s w.cell w.value) ws x (setting.stays s w.cell w.value x stored)

pub put-stays : SettingLaw → (s : Cells) (ws : List Write) (x : Cell) → IsStored s x → IsStored (put_all s ws) x
put-stays setting s ws x stored = subst (λ t. IsStored t x) (sym (put-write s ws)) (write-stays setting s ws x stored)

-- the cells are as they were left, where they are stored and hold what was left
pub as-left : (now left : Cells) (ws : List Write) → Each (λ (w : Change). IsStored now w.cell) (before posix left ws) → Has posix now (before posix left ws) → AreAsLeft now left (map written_cell ws)
as-left now left [] stored has = tt
as-left now left (w ∷ ws) stored has = (stored.0, has.0, as-left now left ws stored.1 has.1)

-- what was left is stored
pub left-stored : (now left : Cells) (ws : List Write) → AreAsLeft now now (map written_cell ws) → Each (λ (w : Change). IsStored now w.cell) (before posix left ws)
left-stored now left [] are = tt
left-stored now left (w ∷ ws) are = (are.0, left-stored now left ws are.2)

-- the files of descriptions
module _ (cells now : Cells) (named : (f : ℕ) (o : OpenFile) → open_of cells f ≡ Some o → HasFilePlace now o.file) where
  of-description : (f : ℕ) (o : Option OpenFile) → open_of cells f ≡ o → file_is_stored now (Fd f) o
  of-description f None is = tt
  of-description f (Some o) is = named f o is

  of-cell : (c : Cell) → file_is_stored now c (held cells c)
  of-cell (Entry entry) = tt
  of-cell (Names d) = tt
  of-cell (Parent d) = tt
  of-cell (Links i) = tt
  of-cell (Bytes i) = tt
  of-cell (Fd f) = of-description f (open_of cells f) refl
  of-cell (DirAttributes d) = tt
  of-cell (FileAttributes i) = tt

  pub files-stored : (ws : List Write) → Each (λ (w : Change). file_is_stored now w.cell w.value) (before posix cells ws)
  files-stored [] = tt
  files-stored (w ∷ ws) = (of-cell w.cell, files-stored ws)

-- what has its places keeps them
module _ (cells now : Cells) (stay : (x : Cell) → IsStored cells x → IsStored now x) where
  file-stays : (c : Cell) (v : Holds c) → file_is_stored cells c v → file_is_stored now c v
  file-stays (Entry entry) v h = tt
  file-stays (Names d) v h = tt
  file-stays (Parent d) v h = tt
  file-stays (Links i) v h = tt
  file-stays (Bytes i) v h = tt
  file-stays (Fd f) None h = tt
  file-stays (Fd f) (Some o) h = stay (Links o.file) h
  file-stays (DirAttributes d) v h = tt
  file-stays (FileAttributes i) v h = tt

  pub placed-stays : (e : Item) → ArePlaced cells e → ArePlaced now e
  placed-stays e placed = record {
    own = placed.own;
    written = Each-from (λ (w : Change). IsStored now w.cell) e.inverse.after (λ w i. stay w.cell (Each-at (λ (v : Change). IsStored cells v.cell) e.inverse.after w placed.written i));
    files = Each-from (λ (w : Change). file_is_stored now w.cell w.value) e.inverse.before (λ w i. file-stays w.cell w.value (Each-at (λ (v : Change). file_is_stored cells v.cell v.value) e.inverse.before w placed.files i));
  }
