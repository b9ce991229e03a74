-- Edits that are made one after the other can be taken back.
use Rattle.std.proofs.Common.{◌≡◌, ℕ, suc, false, List, [], ◌∷◌, ◌++◌, length, map, drop, slice_get, Option, None, Some, is_some, IsSome, unwrap_or, inl, inr, refl, sym, ap, subst, ◌∙◌}
use Rattle.std.specs.Option.{option_flatten, option_map}
use Rattle.std.specs.FinMap.{get}
use Rattle.std.proofs.Math.ListN.{drop_of_length-le}
use Rattle.std.proofs.Math.Seq.{drop-cons}
use Rattle.std.proofs.lemmas.Bool.{false≢true}
use Rattle.std.proofs.lemmas.Option.{slice_get_within, slice_get_cases, get_or_from_slice_get}
use Rattle.ft_cells.specs.declared.cell.Cell.{Cell}
use Rattle.ft_cells.specs.declared.cell.Cell.TheVariants as cell
use Rattle.std.specs.Cmp.{eq_by_cmp_equiv}
use Rattle.ft_cells.specs.CellOrder.{cell_cmp_total, same_cell}
use Rattle.ft_cells.specs.Cells.{Cells, DirCells, FileCells, Contents, ContentsChange, no_dir, no_file, entry_of, parent_of, links_of, contents_of, open_of, dir_attributes_of, file_attributes_of, put_contents, HasFilePlace}
use Rattle.ft_tree.specs.Held.{Holds, held, place_at, IsStored}
use Rattle.ft_posix.specs.declared.intent.Edit.{Edit}
use Rattle.ft_posix.specs.declared.intent.Edit.TheVariants.{Entry, Parent, Links, Overwrite, Resize, Open, DirAttributes, FileAttributes, Time}
use Rattle.ft_posix.specs.Outcomes.{Write, sets}
use Rattle.ft_posix.specs.Accesses.{written_cell}
use Rattle.ft_posix.specs.Stored.{put}
use Rattle.ft_posix.specs.Computes.{write_of, writes_of}
use Rattle.ft_posix.specs.Edits.{edited, CanEdit, CanEditAll, edit_cell, IsOther, Apart, SameOn, EditingLaw}
use Rattle.ft_laws.specs.Effects.{before}
use Rattle.ft_posix.specs.Posix.{posix}
use Rattle.ft_posix.proofs.Edited.{write-cell, same-on}
use Rattle.ft_posix.specs.CellLaws.{SettingLaw, RestoringLaw}
use Rattle.ft_undo.specs.declared.undo.BeforeImage.{BeforeImage}
use Rattle.ft_undo.specs.declared.undo.BeforeImage.TheVariants as back
use Rattle.ft_undo.specs.Undone.{back_of, backs_of, given_back, CanGiveBack, CanGiveAllBack, restore, restored, CanRestoreAll, IsLeft, AreAsLeft}

-- what takes an edit back gives its cell the value that it had
abbrev pub was_in : Cells → Edit → Write
was_in s (Entry entry to) = sets (cell.Entry entry) (entry_of s entry.dir entry.name)
was_in s (Parent d to) = sets (cell.Parent d) (parent_of s d)
was_in s (Links i to) = sets (cell.Links i) (links_of s i)
was_in s (Overwrite i at bytes) = sets (cell.Bytes i) (contents_of s i)
was_in s (Resize i size) = sets (cell.Bytes i) (contents_of s i)
was_in s (Open f to) = sets (cell.Fd f) (open_of s f)
was_in s (DirAttributes d to) = sets (cell.DirAttributes d) (dir_attributes_of s d)
was_in s (FileAttributes i to) = sets (cell.FileAttributes i) (file_attributes_of s i)
was_in s (Time i to) = sets (cell.Bytes i) (contents_of s i)

parent-place : (o : Option DirCells) → option_flatten (option_map (λ (x : DirCells). x.parent) o) ≡ (unwrap_or o no_dir).parent
parent-place None = refl
parent-place (Some x) = refl

links-place : (o : Option FileCells) → unwrap_or (option_map (λ (x : FileCells). x.links) o) 0 ≡ (unwrap_or o no_file).links
links-place None = refl
links-place (Some x) = refl

pub back-was : (s : Cells) (e : Edit) → given_back (back_of s e) ≡ was_in s e
back-was s (Entry entry to) = refl
back-was s (Parent d to) = ap (sets (cell.Parent d)) (parent-place (get s.directories d))
back-was s (Links i to) = ap (sets (cell.Links i)) (links-place (get s.files i))
back-was s (Overwrite i at bytes) = refl
back-was s (Resize i size) = refl
back-was s (Open f to) = refl
back-was s (DirAttributes d to) = refl
back-was s (FileAttributes i to) = refl
back-was s (Time i to) = refl

back-cell : (s : Cells) (e : Edit) → written_cell (given_back (back_of s e)) ≡ edit_cell e
back-cell s (Entry entry to) = refl
back-cell s (Parent d to) = refl
back-cell s (Links i to) = refl
back-cell s (Overwrite i at bytes) = refl
back-cell s (Resize i size) = refl
back-cell s (Open f to) = refl
back-cell s (DirAttributes d to) = refl
back-cell s (FileAttributes i to) = refl
back-cell s (Time i to) = refl

-- the value that a cell had depends on it alone
was-same : (s t : Cells) (e : Edit) → held s (edit_cell e) ≡ held t (edit_cell e) → was_in s e ≡ was_in t e
was-same s t (Entry entry to) h = ap (sets (cell.Entry entry)) h
was-same s t (Parent d to) h = ap (sets (cell.Parent d)) h
was-same s t (Links i to) h = ap (sets (cell.Links i)) h
was-same s t (Overwrite i at bytes) h = ap (sets (cell.Bytes i)) h
was-same s t (Resize i size) h = ap (sets (cell.Bytes i)) h
was-same s t (Open f to) h = ap (sets (cell.Fd f)) h
was-same s t (DirAttributes d to) h = ap (sets (cell.DirAttributes d)) h
was-same s t (FileAttributes i to) h = ap (sets (cell.FileAttributes i)) h
was-same s t (Time i to) h = ap (sets (cell.Bytes i)) h

pub written-edits : (s : Cells) (es : List Edit) → map written_cell (writes_of s es) ≡ map edit_cell es
written-edits s [] = refl
written-edits s (e ∷ es) = λ i. write-cell s e i ∷ written-edits s es i

module _ (editing : EditingLaw) where
  -- edits of different cells are taken back by the values from before all of them
  pub backs-before : (old s : Cells) (es : List Edit) → Apart es → SameOn s old es → map given_back (backs_of s es) ≡ map (was_in old) es
  backs-before old s [] apart h = refl
  backs-before old s (e ∷ es) apart h =
      ap (λ w. w ∷ map given_back (backs_of (put s (write_of s e)) es)) (back-was s e ∙ was-same s old e h.0)
      ∙ ap (λ ws. was_in old e ∷ ws) (backs-before old (put s (write_of s e)) es apart.1 (editing.undisturbed s old e es apart.0 h.1))

-- the values from before, as calls in the abstract have them
was-before : (cells : Cells) (e : Edit) → was_in cells e ≡ sets (write_of cells e).cell (held cells (write_of cells e).cell)
was-before cells (Entry entry to) = refl
was-before cells (Parent d to) = refl
was-before cells (Links i to) = refl
was-before cells (Overwrite i at bytes) = refl
was-before cells (Resize i size) = refl
was-before cells (Open f to) = refl
was-before cells (DirAttributes d to) = refl
was-before cells (FileAttributes i to) = refl
was-before cells (Time i to) = refl

was-all : (cells : Cells) (es : List Edit) → map (was_in cells) es ≡ before posix cells (writes_of cells es)
was-all cells [] = refl
was-all cells (e ∷ es) = λ i. was-before cells e i ∷ was-all cells es i

-- what takes edits back is the inverse
pub undo-before : EditingLaw → (cells : Cells) (es : List Edit) → Apart es → map given_back (backs_of cells es) ≡ before posix cells (writes_of cells es)
undo-before editing cells es apart = backs-before editing cells cells es apart (same-on cells es) ∙ was-all cells es

-- the test of cells is symmetric
same_cell-sym : (x y : Cell) → same_cell x y ≡ same_cell y x
same_cell-sym = (eq_by_cmp_equiv cell_cmp_total).symm

-- what is stored of a file, or a directory, stands in its place
stored-there : {A B : Type 0} (f : A → B) (none : A) (o : Option A) → IsSome o → option_map f o ≡ Some (f (unwrap_or o none))
stored-there f none None h = absurd (false≢true h)
stored-there f none (Some x) h = refl

contents-there : (o : Option FileCells) → IsSome o → option_map (λ (x : FileCells). x.contents) o ≡ Some (unwrap_or o no_file).contents
contents-there o h = stored-there (λ (x : FileCells). x.contents) no_file o h

module _ (setting : SettingLaw) where
  -- a write keeps every place
  stays : (t : Cells) (w : Write) (c : Cell) → IsStored t c → IsStored (put t w) c
  stays t w c h = setting.stays t w.cell w.value c h

  -- and the other cells
  put-kept : (t : Cells) (w : Write) (c : Cell) → same_cell (written_cell w) c ≡ false → held (put t w) c ≡ held t c
  put-kept t w c h = setting.kept t w.cell w.value c h

  -- What can be taken back.

  -- what can be taken back can be so when another cell is set
  give-put : (t : Cells) (w : Write) (s : Cells) (e : Edit) → same_cell (written_cell w) (edit_cell e) ≡ false → CanGiveBack t (back_of s e) → CanGiveBack (put t w) (back_of s e)
  give-put t w s (Entry entry to) h can = (stays t w (cell.Entry entry) can.0, stays t w (cell.Parent entry.dir) can.1)
  give-put t w s (Parent d to) h can = stays t w (cell.Parent d) can
  give-put t w s (Links i to) h can = stays t w (cell.Links i) can
  give-put t w s (Overwrite i at bytes) h can = (stays t w (cell.Bytes i) can.0, put-kept t w (cell.Bytes i) h ∙ can.1)
  give-put t w s (Resize i size) h can = (stays t w (cell.Bytes i) can.0, put-kept t w (cell.Bytes i) h ∙ can.1)
  give-put t w s (Open f to) h can = stays t w (cell.Fd f) can
  give-put t w s (DirAttributes d to) h can = stays t w (cell.DirAttributes d) can
  give-put t w s (FileAttributes i to) h can = stays t w (cell.FileAttributes i) can
  give-put t w s (Time i to) h can = (stays t w (cell.Bytes i) can.0, put-kept t w (cell.Bytes i) h ∙ can.1)

  -- an edit that was made can be taken back
  pub give-edited : (s : Cells) (e : Edit) → CanEdit s e → CanGiveBack (put s (write_of s e)) (back_of s e)
  give-edited s (Entry entry to) can = (setting.stored s (cell.Entry entry) to can, setting.stays s (cell.Entry entry) to (cell.Parent entry.dir) can)
  give-edited s (Parent d to) can = setting.stored s (cell.Parent d) to tt
  give-edited s (Links i to) can = setting.stored s (cell.Links i) to tt
  give-edited s (Overwrite i at bytes) can = (setting.stored s (cell.Bytes i) _ can.0, setting.written s (cell.Bytes i) _)
  give-edited s (Resize i size) can = (setting.stored s (cell.Bytes i) _ can.0, setting.written s (cell.Bytes i) _)
  give-edited s (Open f to) can = setting.stored s (cell.Fd f) to tt
  give-edited s (DirAttributes d to) can = setting.stored s (cell.DirAttributes d) to can
  give-edited s (FileAttributes i to) can = setting.stored s (cell.FileAttributes i) to can
  give-edited s (Time i to) can = (setting.stored s (cell.Bytes i) _ can, setting.written s (cell.Bytes i) _)

  -- what was edited has its place
  stored-edit : (s : Cells) (e : Edit) → CanEdit s e → IsStored (put s (write_of s e)) (edit_cell e)
  stored-edit s (Entry entry to) can = setting.stored s (cell.Entry entry) to can
  stored-edit s (Parent d to) can = setting.stored s (cell.Parent d) to tt
  stored-edit s (Links i to) can = setting.stored s (cell.Links i) to tt
  stored-edit s (Overwrite i at bytes) can = setting.stored s (cell.Bytes i) _ can.0
  stored-edit s (Resize i size) can = setting.stored s (cell.Bytes i) _ can.0
  stored-edit s (Open f to) can = setting.stored s (cell.Fd f) to tt
  stored-edit s (DirAttributes d to) can = setting.stored s (cell.DirAttributes d) to can
  stored-edit s (FileAttributes i to) can = setting.stored s (cell.FileAttributes i) to can
  stored-edit s (Time i to) can = setting.stored s (cell.Bytes i) _ can

  stays-edited : (s : Cells) (es : List Edit) (c : Cell) → IsStored s c → IsStored (edited s es) c
  stays-edited s [] c h = h
  stays-edited s (e ∷ es) c h = stays-edited (put s (write_of s e)) es c (stays s (write_of s e) c h)

  pub left-edited : (s : Cells) (es : List Edit) → CanEditAll s es → AreAsLeft (edited s es) (edited s es) (map edit_cell es)
  left-edited s [] can = tt
  left-edited s (e ∷ es) can = (stays-edited (put s (write_of s e)) es (edit_cell e) (stored-edit s e can.0), refl, left-edited (put s (write_of s e)) es can.1)

  left-back : (t s q : Cells) (e : Edit) (es : List Edit) → IsOther (edit_cell e) es → IsLeft t s es → IsLeft (put t (given_back (back_of q e))) s es
  left-back t s q e [] other h = tt
  left-back t s q e (f ∷ fs) other h =
      (give-put t (given_back (back_of q e)) s f (ap (λ c. same_cell c (edit_cell f)) (back-cell q e) ∙ other.0) h.0, left-back t (put s (write_of s f)) q e fs other.1 h.1)

  -- so all of them can, one after the other
  pub give-all : (t s : Cells) (es : List Edit) → Apart es → IsLeft t s es → CanGiveAllBack t (backs_of s es)
  give-all t s [] apart h = tt
  give-all t s (e ∷ es) apart h =
      (h.0, give-all (put t (given_back (back_of s e))) (put s (write_of s e)) es apart.1 (left-back t (put s (write_of s e)) s e es apart.0 h.1))

  -- Cells that are as the edits left them.

  kept-edited : (s : Cells) (es : List Edit) (c : Cell) → IsOther c es → held (edited s es) c ≡ held s c
  kept-edited s [] c other = refl
  kept-edited s (f ∷ fs) c other = kept-edited (put s (write_of s f)) fs c other.1 ∙ put-kept s (write_of s f) c (ap (λ d. same_cell d c) (write-cell s f) ∙ same_cell-sym (edit_cell f) c ∙ other.0)

  -- a cell that has its place, and what an edit left in it
  give-left : (t s : Cells) (e : Edit) → IsStored t (edit_cell e) → held t (edit_cell e) ≡ held (put s (write_of s e)) (edit_cell e) → CanGiveBack t (back_of s e)
  give-left t s (Entry entry to) stored h = (stored, setting.within t entry.dir entry.name stored)
  give-left t s (Parent d to) stored h = stored
  give-left t s (Links i to) stored h = stored
  give-left t s (Overwrite i at bytes) stored h = (stored, h ∙ setting.written s (cell.Bytes i) _)
  give-left t s (Resize i size) stored h = (stored, h ∙ setting.written s (cell.Bytes i) _)
  give-left t s (Open f to) stored h = stored
  give-left t s (DirAttributes d to) stored h = stored
  give-left t s (FileAttributes i to) stored h = stored
  give-left t s (Time i to) stored h = (stored, h ∙ setting.written s (cell.Bytes i) _)

  pub as-left : (t s : Cells) (es : List Edit) → Apart es → AreAsLeft t (edited s es) (map edit_cell es) → IsLeft t s es
  as-left t s [] apart h = tt
  as-left t s (e ∷ es) apart h =
      (give-left t s e h.0 (h.1 ∙ kept-edited (put s (write_of s e)) es (edit_cell e) apart.0), as-left t (put s (write_of s e)) es apart.1 h.2)

module _ (setting : SettingLaw) (restoring : RestoringLaw) where
  -- As if it had never been.

  -- an edit that was made and is taken back
  pub restore-edit : (s : Cells) (e : Edit) → CanEdit s e → restore (put s (write_of s e)) (back_of s e) ≡ s
  restore-edit s (Entry entry to) can = by_place (place_at s (cell.Entry entry)) refl
    where
      by_place : (p : Option (Holds (cell.Entry entry))) → place_at s (cell.Entry entry) ≡ p → restore (put s (sets (cell.Entry entry) to)) (back.Entry entry p) ≡ s
      by_place None is = restoring.new s (cell.Entry entry) to can is
      by_place (Some was) is = restoring.again s (cell.Entry entry) to was is
  restore-edit s (Parent d to) can = by_place (place_at s (cell.Parent d)) refl
    where
      by_place : (p : Option (Option ℕ)) → place_at s (cell.Parent d) ≡ p → restore (put s (sets (cell.Parent d) to)) (back.Parent d p) ≡ s
      by_place None is = restoring.new s (cell.Parent d) to tt is
      by_place (Some was) is = restoring.again s (cell.Parent d) to was is
  restore-edit s (Links i to) can = by_place (place_at s (cell.Links i)) refl
    where
      by_place : (p : Option ℕ) → place_at s (cell.Links i) ≡ p → restore (put s (sets (cell.Links i) to)) (back.Links i p) ≡ s
      by_place None is = restoring.new s (cell.Links i) to tt is
      by_place (Some was) is = restoring.again s (cell.Links i) to was is
  restore-edit s (Overwrite i at bytes) can = restoring.again s (cell.Bytes i) _ (contents_of s i) (contents-there (get s.files i) can.0)
  restore-edit s (Resize i size) can = restoring.again s (cell.Bytes i) _ (contents_of s i) (contents-there (get s.files i) can.0)
  restore-edit s (Open f to) can = by_place (place_at s (cell.Fd f)) refl
    where
      by_place : (p : Option (Holds (cell.Fd f))) → place_at s (cell.Fd f) ≡ p → restore (put s (sets (cell.Fd f) to)) (back.Open f p) ≡ s
      by_place None is = restoring.new s (cell.Fd f) to tt is
      by_place (Some was) is = restoring.again s (cell.Fd f) to was is
  restore-edit s (DirAttributes d to) can = restoring.again s (cell.DirAttributes d) to (dir_attributes_of s d) (stored-there (λ (x : DirCells). x.attributes) no_dir (get s.directories d) can)
  restore-edit s (FileAttributes i to) can = restoring.again s (cell.FileAttributes i) to (file_attributes_of s i) (stored-there (λ (x : FileCells). x.attributes) no_file (get s.files i) can)
  restore-edit s (Time i to) can = restoring.again s (cell.Bytes i) _ (contents_of s i) (contents-there (get s.files i) can)

  -- a change of a file's bytes leaves the file its place
  pub placed-still : (old new : Cells) (i k : ℕ) (to : Contents) → HasFilePlace old i → new ≡ put_contents old i to → k ≡ i → HasFilePlace new k
  placed-still old new i k to there set same = subst (HasFilePlace new) (sym same) (subst (λ (s : Cells). HasFilePlace s i) (sym set) (setting.stored old (cell.Bytes i) to there))

  -- and gives the cells back as they were
  pub changed-back : (old new : Cells) (i k : ℕ) (to : Contents) (undo : ContentsChange) → HasFilePlace old i → new ≡ put_contents old i to → k ≡ i → undo ≡ record { before = contents_of old i; after = contents_of new i } → put_contents new k undo.before ≡ old
  changed-back old new i k to undo there set same is =
      (λ j. put_contents (set j) (same j) (is j).before) ∙ restoring.again old (cell.Bytes i) to (contents_of old i) (contents-there (get old.files i) there)

  -- and all of them, the last one first
  pub restored-edited : (s : Cells) (es : List Edit) → CanEditAll s es → restored (edited s es) (backs_of s es) ≡ s
  restored-edited s [] can = refl
  restored-edited s (e ∷ es) can = ap (λ (t : Cells). restore t (back_of s e)) (restored-edited (put s (write_of s e)) es can.1) ∙ restore-edit s e can.0

  pub can-restore : (s : Cells) (es : List Edit) → CanEditAll s es → CanRestoreAll (edited s es) (backs_of s es)
  can-restore s [] can = tt
  can-restore s (e ∷ es) can =
      (can-restore (put s (write_of s e)) es can.1, subst (λ (t : Cells). CanGiveBack t (back_of s e)) (sym (restored-edited (put s (write_of s e)) es can.1)) (give-edited setting s e can.0))

pub restored-last : (bs : List BeforeImage) (b : BeforeImage) (s : Cells) → restored s (bs ++ b ∷ []) ≡ restored (restore s b) bs
restored-last [] b s = refl
restored-last (x ∷ xs) b s = ap (λ (t : Cells). restore t x) (restored-last xs b s)

pub can-last : (bs : List BeforeImage) (b : BeforeImage) (s : Cells) → CanRestoreAll s (bs ++ b ∷ []) → CanGiveBack s b × CanRestoreAll (restore s b) bs
can-last [] b s can = (can.1, tt)
can-last (x ∷ xs) b s can =
    let rest = can-last xs b s can.0 in (rest.0, (rest.1, subst (λ (t : Cells). CanGiveBack t x) (restored-last xs b s) can.1))

-- On the way through the edits.

-- the edit at a place is the first of those from there on
pub from-place : (es : List Edit) (k : ℕ) (e : Edit) → slice_get es k ≡ Some e → drop k es ≡ e ∷ drop (suc k) es
from-place es k e is = drop-cons es k e (slice_get_within es k e is) ∙ ap (λ d. d ∷ drop (suc k) es) (get_or_from_slice_get es k e e is)

-- some were made, and these are left
pub record IsUnderWay (old : Cells) (all : List Edit) (now : Cells) (undo : List BeforeImage) (rest : List Edit) : Type 0 where
  pub made : List Edit
  pub split : made ++ rest ≡ all
  pub cells : now ≡ edited old made
  pub backs : undo ≡ backs_of old made

pub under-way-start : (old : Cells) (all : List Edit) → IsUnderWay old all old [] all
under-way-start old all = record { made = []; split = refl; cells = refl; backs = refl }

edited-more : (s : Cells) (es : List Edit) (e : Edit) → edited s (es ++ e ∷ []) ≡ put (edited s es) (write_of (edited s es) e)
edited-more s [] e = refl
edited-more s (f ∷ fs) e = edited-more (put s (write_of s f)) fs e

backs-more : (s : Cells) (es : List Edit) (e : Edit) → backs_of s (es ++ e ∷ []) ≡ backs_of s es ++ back_of (edited s es) e ∷ []
backs-more s [] e = refl
backs-more s (f ∷ fs) e = ap (λ bs. back_of s f ∷ bs) (backs-more (put s (write_of s f)) fs e)

shift : (es fs : List Edit) (e : Edit) → (es ++ e ∷ []) ++ fs ≡ es ++ e ∷ fs
shift [] fs e = refl
shift (d ∷ ds) fs e = ap (λ gs. d ∷ gs) (shift ds fs e)

pub under-way-on : (old : Cells) (all : List Edit) (now : Cells) (undo : List BeforeImage) (e : Edit) (rest : List Edit) → IsUnderWay old all now undo (e ∷ rest)
    → (new : Cells) (more : List BeforeImage) → new ≡ put now (write_of now e) → more ≡ undo ++ back_of now e ∷ [] → IsUnderWay old all new more rest
under-way-on old all now undo e rest on new more cells backs = record {
  made = on.made ++ e ∷ [];
  split = shift on.made rest e ∙ on.split;
  cells = cells ∙ ap (λ s. put s (write_of s e)) on.cells ∙ sym (edited-more old on.made e);
  backs = backs ∙ (λ i. on.backs i ++ back_of (on.cells i) e ∷ []) ∙ sym (backs-more old on.made e);
}

can-first : (s : Cells) (es : List Edit) (e : Edit) (rest : List Edit) → CanEditAll s (es ++ e ∷ rest) → CanEdit (edited s es) e
can-first s [] e rest can = can.0
can-first s (f ∷ fs) e rest can = can-first (put s (write_of s f)) fs e rest can.1

can-part : (s : Cells) (es rest : List Edit) → CanEditAll s (es ++ rest) → CanEditAll s es
can-part s [] rest can = tt
can-part s (e ∷ es) rest can = (can.0, can-part (put s (write_of s e)) es rest can.1)

module _ (old : Cells) (all : List Edit) (now : Cells) (undo : List BeforeImage) where
  pub under-way-can : (e : Edit) (rest : List Edit) → CanEditAll old all → IsUnderWay old all now undo (e ∷ rest) → CanEdit now e
  under-way-can e rest can on = subst (λ s. CanEdit s e) (sym on.cells) (can-first old on.made e rest (subst (CanEditAll old) (sym on.split) can))

  module _ (setting : SettingLaw) (restoring : RestoringLaw) (rest : List Edit) (can : CanEditAll old all) (on : IsUnderWay old all now undo rest) where
    made-can : CanEditAll old on.made
    made-can = can-part old on.made rest (subst (CanEditAll old) (sym on.split) can)

    -- what was made so far can be taken back as if it had never been
    pub under-way-back : CanRestoreAll now undo
    under-way-back = subst (λ (s : Cells). CanRestoreAll s undo) (sym on.cells) (subst (CanRestoreAll (edited old on.made)) (sym on.backs) (can-restore setting restoring old on.made made-can))

    pub under-way-same : restored now undo ≡ old
    under-way-same = (λ i. restored (on.cells i) (on.backs i)) ∙ restored-edited setting restoring old on.made made-can

pub append-nil : (es : List Edit) → es ++ [] ≡ es
append-nil [] = refl
append-nil (e ∷ es) = ap (λ fs. e ∷ fs) (append-nil es)

-- at the end all were made
pub under-way-end : (old : Cells) (all : List Edit) (now : Cells) (undo : List BeforeImage) → IsUnderWay old all now undo [] → (now ≡ edited old all) × (undo ≡ backs_of old all)
under-way-end old all now undo on =
    let all_made = sym (append-nil on.made) ∙ on.split in
    (on.cells ∙ ap (edited old) all_made, on.backs ∙ ap (backs_of old) all_made)

-- The edits are gone through by their places.

past-all : (es : List Edit) (k : ℕ) → slice_get es k ≡ None → drop k es ≡ []
past-all es k none = elim (slice_get_cases es k).1 [
  | inl here ↦ absurd (false≢true (ap is_some (sym none ∙ here.2)))
  | inr past ↦ drop_of_length-le es past.0
]

pub one-longer : (bs : List BeforeImage) (b : BeforeImage) → suc (length bs) ≡ length (bs ++ b ∷ [])
one-longer [] b = refl
one-longer (x ∷ xs) b = ap suc (one-longer xs b)

module _ (old : Cells) (all : List Edit) (now : Cells) (undo : List BeforeImage) (on : IsUnderWay old all now undo (drop (length undo) all)) where
  next-is : (e : Edit) → slice_get all (length undo) ≡ Some e → IsUnderWay old all now undo (e ∷ drop (suc (length undo)) all)
  next-is e is = subst (IsUnderWay old all now undo) (from-place all (length undo) e is) on

  -- the next one can be made
  pub next-can : (e : Edit) → slice_get all (length undo) ≡ Some e → CanEditAll old all → CanEdit now e
  next-can e is can = under-way-can old all now undo e (drop (suc (length undo)) all) can (next-is e is)

  -- and is made
  pub next-made : (e : Edit) → slice_get all (length undo) ≡ Some e → (new : Cells) (more : List BeforeImage) → new ≡ put now (write_of now e) → more ≡ undo ++ back_of now e ∷ [] → IsUnderWay old all new more (drop (length more) all)
  next-made e is new more cells backs =
      subst (λ n. IsUnderWay old all new more (drop n all)) (one-longer undo (back_of now e) ∙ sym (ap length backs)) (under-way-on old all now undo e (drop (suc (length undo)) all) (next-is e is) new more cells backs)

  -- where none is left all were made
  pub none-left : slice_get all (length undo) ≡ None → (now ≡ edited old all) × (undo ≡ backs_of old all)
  none-left none = under-way-end old all now undo (subst (IsUnderWay old all now undo) (past-all all (length undo) none) on)
