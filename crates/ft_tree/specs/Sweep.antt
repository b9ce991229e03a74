-- A sweep: which places it may remove, and what it leaves. (Rules of this project.)
use Rattle.std.specs.Prelude.{◌≡◌, ℕ, Bool, true, false, cond, not, ◌==◌, ◌&&◌, ◌||◌, ◌+◌, List, [], ◌∷◌, is_none}
use Rattle.std.specs.FinMap as finite
use Rattle.std.specs.FinSet as set
use Rattle.ft_cells.specs.declared.cell.Cell.{Cell}
use Rattle.ft_cells.specs.declared.cell.Cell.TheVariants.{Entry, Names, Parent, Links, Bytes, Fd, DirAttributes, FileAttributes}
use Rattle.ft_cells.specs.CellOrder.{cell_cmp}
use Rattle.ft_cells.specs.Cells.{Cells, DirCells, entry_of, parent_of, dir_attributes_of, links_of, file_attributes_of, contents_of, open_of, dir_of, has_dir, has_file, HasDirPlace, HasFilePlace}
use Rattle.ft_tree.specs.Held.{IsStored, without_place}

-- the place of a cell is there and useless: it is an empty place of an entry or descriptor, or the
-- place of a directory or a file. The directory does not exist and has no place of an entry, and
-- nothing names the file (POSIX.1-2017, System Interfaces, unlink, rmdir and close).
abbrev pub is_useless : Cells → Cell → Bool
is_useless cells (Entry entry) = finite.contains_key (dir_of cells entry.dir).entries entry.name && is_none (entry_of cells entry.dir entry.name)
is_useless cells (Names d) = finite.contains_key cells.directories d && not (has_dir cells d) && (finite.len (dir_of cells d).entries == 0)
is_useless cells (Parent d) = finite.contains_key cells.directories d && not (has_dir cells d) && (finite.len (dir_of cells d).entries == 0)
is_useless cells (Links i) = finite.contains_key cells.files i && not (has_file cells i)
is_useless cells (Bytes i) = finite.contains_key cells.files i && not (has_file cells i)
is_useless cells (Fd f) = finite.contains_key cells.opens f && is_none (open_of cells f)
is_useless cells (DirAttributes d) = finite.contains_key cells.directories d && not (has_dir cells d) && (finite.len (dir_of cells d).entries == 0)
is_useless cells (FileAttributes i) = finite.contains_key cells.files i && not (has_file cells i)

-- one of the cells that share the place of this cell is among these. The names, the parent and the
-- attributes of a directory share one place. The links, the bytes and the attributes of a file also
-- share one.
abbrev pub at_place : (Cell → Bool) → Cell → Bool
at_place among (Entry entry) = among (Entry entry)
at_place among (Names d) = among (Names d) || among (Parent d) || among (DirAttributes d)
at_place among (Parent d) = among (Names d) || among (Parent d) || among (DirAttributes d)
at_place among (Links i) = among (Links i) || among (Bytes i) || among (FileAttributes i)
at_place among (Bytes i) = among (Links i) || among (Bytes i) || among (FileAttributes i)
at_place among (Fd f) = among (Fd f)
at_place among (DirAttributes d) = among (Names d) || among (Parent d) || among (DirAttributes d)
at_place among (FileAttributes i) = among (Links i) || among (Bytes i) || among (FileAttributes i)

-- 1 if it holds, and 0 otherwise
abbrev pub one_if : Bool → ℕ
one_if b = cond b 1 0

-- the places that a sweep is to remove: a useless place, of which no cell is kept
abbrev pub is_spare : (Cell → Bool) → Cells → Cell → Bool
is_spare kept cells c = is_useless cells c && not (at_place kept c)

-- the cells without the place of one of them, if that place is to be removed
abbrev pub drop_spare : (Cell → Bool) → Cells → Cell → Cells
drop_spare kept cells c = cond (is_spare kept cells c) (without_place cells c) cells

-- the cells after a sweep of one cell; a directory whose last place of an entry is removed may be
-- removed too
abbrev pub swept_at : (Cell → Bool) → Cells → Cell → Cells
swept_at kept cells (Entry entry) = drop_spare kept (drop_spare kept cells (Entry entry)) (Parent entry.dir)
swept_at kept cells (Names d) = drop_spare kept cells (Parent d)
swept_at kept cells (Parent d) = drop_spare kept cells (Parent d)
swept_at kept cells (Links i) = drop_spare kept cells (Links i)
swept_at kept cells (Bytes i) = drop_spare kept cells (Bytes i)
swept_at kept cells (Fd f) = drop_spare kept cells (Fd f)
swept_at kept cells (DirAttributes d) = drop_spare kept cells (DirAttributes d)
swept_at kept cells (FileAttributes i) = drop_spare kept cells (FileAttributes i)

-- how many places a sweep of one cell removes: an entry may take the place of its directory with it
abbrev pub dropped_at : (Cell → Bool) → Cells → Cell → ℕ
dropped_at kept cells (Entry entry) = one_if (is_spare kept cells (Entry entry)) + one_if (is_spare kept (drop_spare kept cells (Entry entry)) (Parent entry.dir))
dropped_at kept cells (Names d) = one_if (is_spare kept cells (Parent d))
dropped_at kept cells (Parent d) = one_if (is_spare kept cells (Parent d))
dropped_at kept cells (Links i) = one_if (is_spare kept cells (Links i))
dropped_at kept cells (Bytes i) = one_if (is_spare kept cells (Bytes i))
dropped_at kept cells (Fd f) = one_if (is_spare kept cells (Fd f))
dropped_at kept cells (DirAttributes d) = one_if (is_spare kept cells (DirAttributes d))
dropped_at kept cells (FileAttributes i) = one_if (is_spare kept cells (FileAttributes i))

-- how many places directories take: one for each, and one for each of their places of entries
abbrev pub places_of_dirs : List (ℕ × DirCells) → ℕ
places_of_dirs [] = 0
places_of_dirs (e ∷ es) = (1 + finite.len e.1.entries) + places_of_dirs es

-- how many places there are: of directories with their entries, of files, and of descriptors
abbrev pub places_in : Cells → ℕ
places_in cells = places_of_dirs (finite.entries cells.directories) + finite.len cells.files + finite.len cells.opens

-- the file was stored, and is not stored any more
abbrev pub is_dropped : Cells → Cells → ℕ → Bool
is_dropped old new i = finite.contains_key old.files i && not (finite.contains_key new.files i)

-- A file that neither an entry nor a description names, and of which no cell is kept.
pub record IsDeadFile (kept : Cell → Bool) (cells : Cells) (i : ℕ) : Type 0 where
  pub dead : has_file cells i ≡ false
  pub links : kept (Links i) ≡ false
  pub bytes : kept (Bytes i) ≡ false
  pub attributes : kept (FileAttributes i) ≡ false

-- The changes of a sweep: it removes places, and does nothing else. Each cell holds its previous
-- value, except the bytes and the attributes of dead files, and the attributes of directories that
-- do not exist. In a sound tree those directories have no attributes. Each kept cell still has its
-- place.
pub record IsSwept (kept : Cell → Bool) (old new : Cells) : Type 0 where
  pub limits : new.limits ≡ old.limits
  pub entries : (d : ℕ) (name : List ℕ) → entry_of new d name ≡ entry_of old d name
  pub parents : (d : ℕ) → parent_of new d ≡ parent_of old d
  pub links : (i : ℕ) → links_of new i ≡ links_of old i
  pub opens : (f : ℕ) → open_of new f ≡ open_of old f
  pub contents : (i : ℕ) → HasFilePlace new i → contents_of new i ≡ contents_of old i
  pub dir_attributes : (d : ℕ) → HasDirPlace new d → dir_attributes_of new d ≡ dir_attributes_of old d
  pub file_attributes : (i : ℕ) → HasFilePlace new i → file_attributes_of new i ≡ file_attributes_of old i
  pub files : (i : ℕ) → is_dropped old new i ≡ true → IsDeadFile kept old i
  pub dirs : (d : ℕ) → has_dir new d ≡ has_dir old d
  pub named : (i : ℕ) → has_file new i ≡ has_file old i
  pub places : (c : Cell) → kept c ≡ true → IsStored old c → IsStored new c
  pub none_new : (c : Cell) → IsStored new c → IsStored old c

-- the cells that were released
abbrev pub ReleasedCells : Type 0
ReleasedCells = set.FinSet cell_cmp

-- No released cell has a place that is left to remove, and no place to remove has been added.
pub record IsSweptClean (kept released_cells : Cell → Bool) (old new : Cells) : Type 0 where
  pub told : (c : Cell) → at_place released_cells c ≡ true → is_spare kept new c ≡ false
  pub others : (c : Cell) → is_spare kept new c ≡ true → is_spare kept old c ≡ true

-- each useless place is kept, or one of its cells was released
abbrev pub IsAccounted : (Cell → Bool) → (Cell → Bool) → Cells → Type 0
IsAccounted kept released_cells cells = (c : Cell) → is_spare kept cells c ≡ true → at_place released_cells c ≡ true

-- every useless place is kept
abbrev pub HasNoneToDrop : (Cell → Bool) → Cells → Type 0
HasNoneToDrop kept cells = (c : Cell) → is_spare kept cells c ≡ false

-- if each useless place is kept or was released before, every useless place is kept afterwards
abbrev pub LeavesNone : (Cell → Bool) → ReleasedCells → Cells → Cells → Type 0
LeavesNone kept released_cells old new = IsAccounted kept (set.contains released_cells) old → HasNoneToDrop kept new
