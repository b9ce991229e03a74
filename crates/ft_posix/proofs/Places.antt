-- Which places are there.
use Rattle.std.proofs.Common.{◌≡◌, ◌≢◌, ℕ, suc, Bool, true, false, cond, List, [], ◌∷◌, Option, Some, None, IsSome, is_some, unwrap_or, eq-eqb, eqb-true, refl, sym, ap, subst, ◌∙◌}
use Rattle.std.specs.Prelude.{◌==◌}
use Rattle.std.proofs.lemmas.Bool.{false≢true}
use Rattle.std.specs.Ordering.{nat_cmp, is_eq, eq_by_cmp}
use Rattle.std.specs.Cmp.{nat_cmp_total, unsigned_tied, tied_itself}
use Rattle.std.specs.Cmp.Lexicographic.{slice_cmp, nat_list_cmp_total}
use Rattle.std.specs.FinMap.{get, get-insert, get-empty}
use Rattle.ft_cells.specs.declared.node.Node.{Node}
use Rattle.ft_cells.specs.declared.cell.Cell.{Cell}
use Rattle.ft_cells.specs.declared.cell.Cell.TheVariants.{Entry, Names, Parent, Links, Bytes, Fd, DirAttributes, FileAttributes}
use Rattle.ft_cells.specs.declared.open_file.OpenFile.{OpenFile}
use Rattle.ft_cells.specs.declared.attributes.Attributes.{Attributes}
use Rattle.ft_cells.specs.Cells.{Cells, DirCells, FileCells, no_dir, no_file, dir_of, parent_of, links_of, HasDirPlace, HasPlace, HasEntryPlace, HasFilePlace, HasOpenPlace, put_dir, put_dir_entry, put_dir_parent, put_kept_of_dir, put_file, put_entry, put_parent, put_dir_attributes, put_open}
use Rattle.ft_tree.specs.Sound.{Hangs, the_root, under, AreSoundCells}
use Rattle.ft_tree.specs.Held.{Holds, set_cell}
use Rattle.ft_posix.specs.Outcomes.{Write}
use Rattle.ft_posix.specs.Stored.{put_all}
use Rattle.ft_posix.proofs.Puts.{dir_of-put_dir}

-- what has a parent is not the directory that stands for none
has_parent : (o : Option DirCells) (p : ℕ) → (unwrap_or o no_dir).parent ≡ Some p → IsSome o
has_parent None p h = cc
has_parent (Some x) p h = refl

-- a directory with a parent is stored
pub dir_place-parent : (cells : Cells) (d p : ℕ) → parent_of cells d ≡ Some p → HasDirPlace cells d
dir_place-parent cells d p h = has_parent (get cells.directories d) p h

-- a directory whose parents lead up to the root is stored
pub dir_place-hangs : (cells : Cells) → AreSoundCells cells → (d : ℕ) → Hangs (parent_of cells) d → HasDirPlace cells d
dir_place-hangs cells sound _ the_root = sound.root_is
dir_place-hangs cells sound _ (under d p h up) = dir_place-parent cells d p h

-- a directory that has the place of an entry is stored
pub dir_place-entry : (cells : Cells) (d : ℕ) (name : List ℕ) → HasEntryPlace cells d name → HasDirPlace cells d
dir_place-entry cells d name h = by_place (get cells.directories d) h
  where
    by_place : (o : Option DirCells) → HasPlace (unwrap_or o no_dir) name → IsSome o
    by_place None place = absurd (false≢true (sym (ap is_some (get-empty {X = Option Node} (slice_cmp nat_cmp) name)) ∙ place))
    by_place (Some x) place = refl

-- what has links is not the file that stands for none
has_links : (o : Option FileCells) (n : ℕ) → (unwrap_or o no_file).links ≡ suc n → IsSome o
has_links None n h = cc
has_links (Some x) n h = refl

-- and so is one whose links are not none
pub file_place-linked : (cells : Cells) (i : ℕ) → links_of cells i ≢ 0 → HasFilePlace cells i
file_place-linked cells i h = by_place (get cells.files i) h
  where
    by_place : (o : Option FileCells) → (unwrap_or o no_file).links ≢ 0 → IsSome o
    by_place None other = absurd (other refl)
    by_place (Some x) other = refl

-- one of two that are there is there
either_some : {A : Type 0} (b : Bool) (x : A) (o : Option A) → IsSome o → IsSome (cond b (Some x) o)
either_some true x o h = refl
either_some false x o h = h

-- the number that is set is the one that is read
chosen : {A : Type 0} (n : ℕ) (x : A) (o : Option A) → cond (eq_by_cmp nat_cmp n n) (Some x) o ≡ Some x
chosen n x o = ap (λ b. cond b (Some x) o) (unsigned_tied n n ∙ eq-eqb n n refl)

-- what is stored stays so when a directory is set
pub dir_place-put_dir : (cells : Cells) (d : ℕ) (x : DirCells) (e : ℕ) → HasDirPlace cells e → HasDirPlace (put_dir cells d x) e
dir_place-put_dir cells d x e h = subst IsSome (sym (get-insert nat_cmp_total cells.directories d x e)) (either_some (eq_by_cmp nat_cmp e d) x (get cells.directories e) h)

-- and what is set is stored
pub dir_place-set : (cells : Cells) (d : ℕ) (x : DirCells) → HasDirPlace (put_dir cells d x) d
dir_place-set cells d x = subst IsSome (sym (get-insert nat_cmp_total cells.directories d x d ∙ chosen d x (get cells.directories d))) refl

-- a stored file stays so when a file is set
pub file_place-put_file : (cells : Cells) (i : ℕ) (x : FileCells) (j : ℕ) → HasFilePlace cells j → HasFilePlace (put_file cells i x) j
file_place-put_file cells i x j h = subst IsSome (sym (get-insert nat_cmp_total cells.files i x j)) (either_some (eq_by_cmp nat_cmp j i) x (get cells.files j) h)

-- and what is set is stored
pub file_place-set : (cells : Cells) (i : ℕ) (x : FileCells) → HasFilePlace (put_file cells i x) i
file_place-set cells i x = subst IsSome (sym (get-insert nat_cmp_total cells.files i x i ∙ chosen i x (get cells.files i))) refl

-- the place of a description stays when one is set
pub open_place-put_open : (cells : Cells) (f : ℕ) (to : Option OpenFile) (g : ℕ) → HasOpenPlace cells g → HasOpenPlace (put_open cells f to) g
open_place-put_open cells f to g h = subst IsSome (sym (get-insert nat_cmp_total cells.opens f to g)) (either_some (eq_by_cmp nat_cmp g f) to (get cells.opens g) h)

-- and the one that is set is there
pub open_place-set : (cells : Cells) (f : ℕ) (to : Option OpenFile) → HasOpenPlace (put_open cells f to) f
open_place-set cells f to = subst IsSome (sym (get-insert nat_cmp_total cells.opens f to f ∙ chosen f to (get cells.opens f))) refl

-- the place of an entry stays when a directory is set to one that has it
entry_place-put_dir : (cells : Cells) (d : ℕ) (x : DirCells) (e : ℕ) (name : List ℕ) → (HasEntryPlace cells d name → HasPlace x name) → HasEntryPlace cells e name → HasEntryPlace (put_dir cells d x) e name
entry_place-put_dir cells d x e name keeps h = subst (λ (y : DirCells). HasPlace y name) (sym (dir_of-put_dir cells d x e)) (by_dir (e == d) refl)
  where
    by_dir : (b : Bool) → (e == d) ≡ b → HasPlace (cond b x (dir_of cells e)) name
    by_dir true is = keeps (subst (λ i. HasEntryPlace cells i name) (eqb-true e d is) h)
    by_dir false is = h

-- so when an entry is set
pub entry_place-put_entry : (cells : Cells) (d : ℕ) (other : List ℕ) (to : Option Node) (e : ℕ) (name : List ℕ) → HasEntryPlace cells e name → HasEntryPlace (put_entry cells d other to) e name
entry_place-put_entry cells d other to e name =
    entry_place-put_dir cells d (put_dir_entry (dir_of cells d) other to) e name
    (λ h. subst IsSome (sym (get-insert nat_list_cmp_total (dir_of cells d).entries other to name)) (either_some (eq_by_cmp (slice_cmp nat_cmp) name other) to (get (dir_of cells d).entries name) h))

-- and a parent
pub entry_place-put_parent : (cells : Cells) (d : ℕ) (p : Option ℕ) (e : ℕ) (name : List ℕ) → HasEntryPlace cells e name → HasEntryPlace (put_parent cells d p) e name
entry_place-put_parent cells d p e name = entry_place-put_dir cells d (put_dir_parent (dir_of cells d) p) e name (λ h. h)

-- and attributes
pub entry_place-put_dir_attributes : (cells : Cells) (d : ℕ) (to : Option Attributes) (e : ℕ) (name : List ℕ) → HasEntryPlace cells e name → HasEntryPlace (put_dir_attributes cells d to) e name
entry_place-put_dir_attributes cells d to e name = entry_place-put_dir cells d (put_kept_of_dir (dir_of cells d) to) e name (λ h. h)

-- and the one that is set is there
pub entry_place-set : (cells : Cells) (d : ℕ) (name : List ℕ) (to : Option Node) → HasEntryPlace (put_entry cells d name to) d name
entry_place-set cells d name to =
    let x = put_dir_entry (dir_of cells d) name to in
    subst (λ (y : DirCells). HasPlace y name) (sym (dir_of-put_dir cells d x d ∙ ap (λ b. cond b x (dir_of cells d)) (eq-eqb d d refl)))
    (subst IsSome (sym (get-insert nat_list_cmp_total (dir_of cells d).entries name to name ∙ ap (λ b. cond b (Some to) (get (dir_of cells d).entries name)) (ap is_eq (tied_itself nat_list_cmp_total name)))) refl)

-- A place that was there is there after a list of writes.

pub dir_place-set_cell : (cells : Cells) (c : Cell) (to : Holds c) (e : ℕ) → HasDirPlace cells e → HasDirPlace (set_cell cells c to) e
dir_place-set_cell cells (Entry entry) to e h = dir_place-put_dir cells entry.dir (put_dir_entry (dir_of cells entry.dir) entry.name to) e h
dir_place-set_cell cells (Names d) to e h = h
dir_place-set_cell cells (Parent d) to e h = dir_place-put_dir cells d (put_dir_parent (dir_of cells d) to) e h
dir_place-set_cell cells (Links i) to e h = h
dir_place-set_cell cells (Bytes i) to e h = h
dir_place-set_cell cells (Fd f) to e h = h
dir_place-set_cell cells (DirAttributes d) to e h = dir_place-put_dir cells d (put_kept_of_dir (dir_of cells d) to) e h
dir_place-set_cell cells (FileAttributes i) to e h = h

pub dir_place-put_all : (ws : List Write) (cells : Cells) (d : ℕ) → HasDirPlace cells d → HasDirPlace (put_all cells ws) d
dir_place-put_all [] cells e h = h
dir_place-put_all (w ∷ ws) cells e h = dir_place-put_all ws (set_cell cells w.cell w.value) e (dir_place-set_cell cells w.cell w.value e h)

entry_place-set_cell : (cells : Cells) (c : Cell) (to : Holds c) (e : ℕ) (other : List ℕ) → HasEntryPlace cells e other → HasEntryPlace (set_cell cells c to) e other
entry_place-set_cell cells (Entry entry) to e other h = entry_place-put_entry cells entry.dir entry.name to e other h
entry_place-set_cell cells (Names d) to e other h = h
entry_place-set_cell cells (Parent d) to e other h = entry_place-put_parent cells d to e other h
entry_place-set_cell cells (Links i) to e other h = h
entry_place-set_cell cells (Bytes i) to e other h = h
entry_place-set_cell cells (Fd f) to e other h = h
entry_place-set_cell cells (DirAttributes d) to e other h = entry_place-put_dir_attributes cells d to e other h
entry_place-set_cell cells (FileAttributes i) to e other h = h

pub entry_place-put_all : (ws : List Write) (cells : Cells) (d : ℕ) (name : List ℕ) → HasEntryPlace cells d name → HasEntryPlace (put_all cells ws) d name
entry_place-put_all [] cells e other h = h
entry_place-put_all (w ∷ ws) cells e other h = entry_place-put_all ws (set_cell cells w.cell w.value) e other (entry_place-set_cell cells w.cell w.value e other h)

file_place-set_cell : (cells : Cells) (c : Cell) (to : Holds c) (j : ℕ) → HasFilePlace cells j → HasFilePlace (set_cell cells c to) j
file_place-set_cell cells (Entry entry) to j h = h
file_place-set_cell cells (Names d) to j h = h
file_place-set_cell cells (Parent d) to j h = h
file_place-set_cell cells (Links i) to j h = file_place-put_file cells i _ j h
file_place-set_cell cells (Bytes i) to j h = file_place-put_file cells i _ j h
file_place-set_cell cells (Fd f) to j h = h
file_place-set_cell cells (DirAttributes d) to j h = h
file_place-set_cell cells (FileAttributes i) to j h = file_place-put_file cells i _ j h

pub file_place-put_all : (ws : List Write) (cells : Cells) (i : ℕ) → HasFilePlace cells i → HasFilePlace (put_all cells ws) i
file_place-put_all [] cells j h = h
file_place-put_all (w ∷ ws) cells j h = file_place-put_all ws (set_cell cells w.cell w.value) j (file_place-set_cell cells w.cell w.value j h)

open_place-set_cell : (cells : Cells) (c : Cell) (to : Holds c) (g : ℕ) → HasOpenPlace cells g → HasOpenPlace (set_cell cells c to) g
open_place-set_cell cells (Entry entry) to g h = h
open_place-set_cell cells (Names d) to g h = h
open_place-set_cell cells (Parent d) to g h = h
open_place-set_cell cells (Links i) to g h = h
open_place-set_cell cells (Bytes i) to g h = h
open_place-set_cell cells (Fd f) to g h = open_place-put_open cells f to g h
open_place-set_cell cells (DirAttributes d) to g h = h
open_place-set_cell cells (FileAttributes i) to g h = h

pub open_place-put_all : (ws : List Write) (cells : Cells) (f : ℕ) → HasOpenPlace cells f → HasOpenPlace (put_all cells ws) f
open_place-put_all [] cells g h = h
open_place-put_all (w ∷ ws) cells g h = open_place-put_all ws (set_cell cells w.cell w.value) g (open_place-set_cell cells w.cell w.value g h)
