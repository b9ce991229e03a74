-- How the numbers of an index lead to inodes in their slab.
use Rattle.std.specs.Prelude.{◌≡◌, ◌↔◌, ℕ, Bool, true, false, ◌==◌, cond, List, map, Option, Some, None, unwrap_or}
use Rattle.std.specs.Ordering.{nat_cmp}
use Rattle.std.specs.List.{AllByRecursion}
use Rattle.std.specs.BTreeMap.{is_at}
use Rattle.std.specs.FinMap as finite
use Rattle.slab.specs.Slab.{Slab, get, Updates}
use Rattle.ft_cells.specs.declared.node.Node.{Node}
use Rattle.ft_cells.specs.declared.node.Node.TheVariants.{Dir as DirNode, File as FileNode}
use Rattle.ft_cells.specs.Cells.{DirCells, FileCells, no_dir, no_file}
use Rattle.ft_inodes.specs.declared.inode.Inode.{Inode}
use Rattle.ft_inodes.specs.declared.inode.Inode.TheVariants.{Directory, File}

-- the directory that an inode is, if it is one
abbrev pub dir_of : Inode → Option DirCells
dir_of (Directory n d) = Some d
dir_of (File n f) = None

-- the file that an inode is, if it is one
abbrev pub file_of : Inode → Option FileCells
file_of (Directory n d) = None
file_of (File n f) = Some f

-- the directory in a slot, if there is one
abbrev pub dir_at : Option Inode → Option DirCells
dir_at None = None
dir_at (Some x) = dir_of x

-- the file in a slot, if there is one
abbrev pub file_at : Option Inode → Option FileCells
file_at None = None
file_at (Some x) = file_of x

-- the directory that is read from a slot, or one that is not stored if the slot has none
abbrev pub dir_in : Option Inode → DirCells
dir_in o = unwrap_or (dir_at o) no_dir

-- the file that is read from a slot, or one that is not stored if the slot has none
abbrev pub file_in : Option Inode → FileCells
file_in o = unwrap_or (file_at o) no_file

-- the directory with number n is in a slot
abbrev pub is_dir : ℕ → Option Inode → Bool
is_dir n None = false
is_dir n (Some (Directory m d)) = m == n
is_dir n (Some (File m f)) = false

-- the file with number n is in a slot
abbrev pub is_file : ℕ → Option Inode → Bool
is_file n None = false
is_file n (Some (Directory m d)) = false
is_file n (Some (File m f)) = m == n

-- this directory or file is in a slot
abbrev pub is_node : Node → Option Inode → Bool
is_node (DirNode n) o = is_dir n o
is_node (FileNode form n) o = is_file n o

-- the key of each number
abbrev pub Index : Type 0
Index = finite.FinMap nat_cmp ℕ

-- the key of a number, if it has one
abbrev pub key_in : Index → ℕ → Option ℕ
key_in index n = finite.get index n

-- the numbers in their order, each with what is seen under its key
abbrev pub listed_by : {X : Type 0} → (Option Inode → X) → Slab Inode → List (ℕ × ℕ) → List (ℕ × X)
listed_by seen s index = map (λ e. (e.0, seen (get s e.1))) index

-- a map from the numbers to what is seen under their keys
abbrev pub shown_by : {X : Type 0} → (Option Inode → X) → Slab Inode → Index → finite.FinMap nat_cmp X
shown_by seen s index = finite.from_entries (listed_by seen s (finite.entries index))

-- a number has a key exactly if its own inode is under that key
abbrev pub Leads : (ℕ → Option Inode → Bool) → Slab Inode → Index → Type 0
Leads is_own s index = (n key : ℕ) → (key_in index n ≡ Some key) ↔ (is_own n (get s key) ≡ true)

-- under each key of a list is the inode of its number
abbrev pub AllLead : (ℕ → Option Inode → Bool) → Slab Inode → List (ℕ × ℕ) → Type 0
AllLead is_own s index = AllByRecursion (λ e. is_own e.0 (get s e.1) ≡ true) index

-- an inode was added under a free key, to which its number then leads
pub record IsAdded (old new : Slab Inode) (index index' : Index) (n : ℕ) (inode : Inode) : Type 0 where
  pub key : ℕ
  pub free : get old key ≡ None
  pub slots : Updates old new key (Some inode)
  pub keys : (q : ℕ) → key_in index' q ≡ cond (is_at (nat_cmp n) q) (Some key) (key_in index q)
