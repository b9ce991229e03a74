-- Sound trees: no directory is below itself, each directory has an entry in its parent, and files
-- and descriptions belong to the tree (POSIX.1-2017, Base Definitions, 3 and 4.13). That a
-- directory has one edge is a rule of this project, since POSIX leaves hard links of directories
-- open (System Interfaces, link, EPERM).
use Rattle.std.specs.Prelude.{◌≡◌, ◌≢◌, ◌≤◌, ℕ, true, false, List, Option, Some, None}
use Rattle.std.specs.FinMap as finite
use Rattle.ft_cells.specs.declared.node.Node.{Node}
use Rattle.ft_cells.specs.declared.node.Node.TheVariants.{Dir as DirNode, File as FileNode}
use Rattle.ft_cells.specs.declared.node.Form.{Form}
use Rattle.ft_cells.specs.declared.entry.Entry.{Entry as DirEntry}
use Rattle.ft_cells.specs.declared.cell.Cell.{Cell}
use Rattle.ft_cells.specs.declared.cell.Cell.TheVariants.{Entry, Names, Parent, Links, Bytes, Fd, DirAttributes, FileAttributes}
use Rattle.ft_cells.specs.declared.attributes.Attributes.{Attributes}
use Rattle.ft_cells.specs.declared.open_file.OpenFile.{OpenFile}
use Rattle.ft_cells.specs.Nodes.{number_of}
use Rattle.ft_cells.specs.Cells.{Cells, no_contents, entry_of, parent_of, dir_attributes_of, links_of, open_of, has_dir, HasDirPlace, HasFilePlace}
use Rattle.ft_tree.specs.Held.{Holds, held, IsStored}
use Rattle.ft_cells.specs.Plain.{PlainTree, parent_in, view_in}
use Rattle.ft_tree.specs.Tidy.{tidy}

-- The parents of a directory lead up to the root, step by step, so the directory is not below
-- itself (3, Path Prefix, Parent Directory).
pub data Hangs (parent : ℕ → Option ℕ) : ℕ → Type 0 where
  the_root : Hangs parent 1
  under : (d p : ℕ) → parent d ≡ Some p → Hangs parent p → Hangs parent d

-- a node exists: the tree has its directory or its file
abbrev pub Stands : PlainTree → Node → Type 0
Stands p (DirNode i) = finite.contains_key p.dirs i ≡ true
Stands p (FileNode form i) = finite.contains_key p.files i ≡ true

-- A plain tree that is sound.
pub record IsSoundTree (p : PlainTree) : Type 0 where
  -- the root is a directory, and no edge leads to it
  pub root : finite.contains_key p.dirs 1 ≡ true
  pub top : (e : DirEntry) (x : Node) → finite.get p.edges e ≡ Some x → number_of x ≢ 1
  -- an edge starts in a directory, and leads to a directory or to a file
  pub starts : (e : DirEntry) (x : Node) → finite.get p.edges e ≡ Some x → finite.contains_key p.dirs e.dir ≡ true
  pub leads : (e : DirEntry) (x : Node) → finite.get p.edges e ≡ Some x → Stands p x
  -- no number is both a directory and a file
  pub apart : (i : ℕ) → finite.contains_key p.dirs i ≡ true → finite.contains_key p.files i ≡ false
  -- every directory except the root has exactly one edge
  pub stands : (i : ℕ) → finite.contains_key p.dirs i ≡ true → i ≢ 1 → (e : DirEntry) × (finite.get p.edges e ≡ Some (DirNode i))
  pub once : (i : ℕ) → finite.contains_key p.dirs i ≡ true → (e f : DirEntry) → finite.get p.edges e ≡ Some (DirNode i) → finite.get p.edges f ≡ Some (DirNode i) → e ≡ f
  -- no directory is below itself
  pub hangs : (d : ℕ) → finite.contains_key p.dirs d ≡ true → Hangs (parent_in p) d
  -- every description names a file
  pub opens : (f : ℕ) (o : OpenFile) → finite.get p.opens f ≡ Some o → finite.contains_key p.files o.file ≡ true

-- a number that is not a directory: not the root, and without a parent
abbrev pub IsNoDir : (ℕ → Option ℕ) → ℕ → Type 0
IsNoDir parent i = (i ≢ 1) × (parent i ≡ None)

-- The entries and parents, as they are stored, are those of a sound tree.
pub record IsTree (entry : ℕ → List ℕ → Option Node) (parent : ℕ → Option ℕ) : Type 0 where
  -- the root has no parent
  pub top : parent 1 ≡ None
  -- an entry is in a directory that exists
  pub starts : (d : ℕ) (name : List ℕ) (x : Node) → entry d name ≡ Some x → Hangs parent d
  -- an entry leads to a directory whose parent has this entry, or to a file
  pub leads : (d : ℕ) (name : List ℕ) (i : ℕ) → entry d name ≡ Some (DirNode i) → parent i ≡ Some d
  pub apart : (d : ℕ) (name : List ℕ) (form : Form) (i : ℕ) → entry d name ≡ Some (FileNode form i) → IsNoDir parent i
  -- a directory has an entry in its parent, under one name
  pub stands : (d p : ℕ) → parent d ≡ Some p → (name : List ℕ) × (entry p name ≡ Some (DirNode d))
  pub once : (d : ℕ) (name other : List ℕ) (i : ℕ) → entry d name ≡ Some (DirNode i) → entry d other ≡ Some (DirNode i) → name ≡ other
  -- no directory is below itself
  pub hangs : (d p : ℕ) → parent d ≡ Some p → Hangs parent d

-- Stored cells that are those of a sound tree. The root is stored, and the stored link counts are
-- the counts of the edges. Each description is of a stored file, which is not a directory. Only an
-- existing directory has attributes.
pub record AreSoundCells (cells : Cells) : Type 0 where
  pub root_is : HasDirPlace cells 1
  pub tree : IsTree (entry_of cells) (parent_of cells)
  pub links : (i : ℕ) → links_of cells i ≡ view_in (tidy cells) (Links i)
  pub opens : (f : ℕ) (o : OpenFile) → open_of cells f ≡ Some o → HasFilePlace cells o.file × IsNoDir (parent_of cells) o.file
  pub attributes : (d : ℕ) (a : Attributes) → dir_attributes_of cells d ≡ Some a → has_dir cells d ≡ true

-- what a cell holds says nothing of number k: no entry and no description names k, and nothing is
-- stored of k
abbrev pub SaysNothingOf : ℕ → (c : Cell) → Holds c → Type 0
SaysNothingOf k (Entry entry) to = (x : Node) → to ≡ Some x → number_of x ≢ k
SaysNothingOf k (Names d) to = Unit {0}
SaysNothingOf k (Parent d) to = d ≡ k → to ≡ None
SaysNothingOf k (Links i) to = i ≡ k → to ≡ 0
SaysNothingOf k (Bytes i) to = i ≡ k → to ≡ no_contents
SaysNothingOf k (Fd f) to = (f ≡ k → to ≡ None) × ((o : OpenFile) → to ≡ Some o → o.file ≢ k)
SaysNothingOf k (DirAttributes d) to = d ≡ k → to ≡ None
SaysNothingOf k (FileAttributes i) to = i ≡ k → to ≡ None

-- k may number something new (a rule of this project): it is above the number of the root, and no
-- cell says anything of k
pub record IsFree (cells : Cells) (k : ℕ) : Type 0 where
  pub above_root : 2 ≤ k
  pub unused : (c : Cell) → SaysNothingOf k c (held cells c)

-- Each cell holds its previous value, whatever places there are, and the limits are the same.
pub record SameValues (old new : Cells) : Type 0 where
  pub limits : new.limits ≡ old.limits
  pub values : (c : Cell) → held new c ≡ held old c

-- Each cell holds its previous value, and the limits are the same. Each place that was there still
-- is. New empty places may have been added.
pub record KeepsValues (old new : Cells) : Type 0 where
  pub limits : new.limits ≡ old.limits
  pub values : (c : Cell) → held new c ≡ held old c
  pub places : (c : Cell) → IsStored old c → IsStored new c
