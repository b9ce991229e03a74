-- The plain tree: edges, directories, files and open file descriptions, and nothing else
-- (POSIX.1-2017, Base Definitions, 3: Directory, Directory Entry, File, Open File Description; and
-- 4.13).
use Rattle.std.specs.Prelude.{ℕ, cond, ◌==◌, List, map, filter, length, Option, None}
use Rattle.std.specs.Ordering.{nat_cmp}
use Rattle.std.specs.List.{find}
use Rattle.std.specs.Option.{option_flatten, option_map, option_map_or}
use Rattle.std.specs.FinMap as finite
use Rattle.ft_cells.specs.declared.node.Node.{Node}
use Rattle.ft_cells.specs.Nodes.{number_of}
use Rattle.ft_cells.specs.declared.attributes.Attributes.{Attributes}
use Rattle.ft_cells.specs.declared.open_file.OpenFile.{OpenFile}
use Rattle.ft_cells.specs.declared.limits.TreeLimits.{TreeLimits}
use Rattle.ft_cells.specs.declared.cell.Cell.TheVariants.{Entry, Names, Parent, Links, Bytes, Fd, DirAttributes, FileAttributes}
use Rattle.ft_cells.specs.Entries.{entry_cmp}
use Rattle.ft_cells.specs.Cells.{Contents, no_contents}
use Rattle.ft_cells.specs.Looks.{View}

-- A file: the attributes that are stored of it, and what it holds.
pub record PlainFile : Type 0 where
  pub attributes : Option Attributes
  pub contents : Contents

-- the directories by number, each with the attributes that are stored of it
abbrev pub PlainDirs : Type 0
PlainDirs = finite.FinMap nat_cmp (Option Attributes)

-- the files by number; the bytes of a symbolic link are its target
abbrev pub PlainFiles : Type 0
PlainFiles = finite.FinMap nat_cmp PlainFile

-- a tree with only what it consists of: it stores no place, no parent and no count of links
pub record PlainTree : Type 0 where
  -- the limits of the size of a file and of its links
  pub limits : TreeLimits
  -- what each entry leads to
  pub edges : finite.FinMap entry_cmp Node
  -- the numbers that are directories, and their attributes
  pub dirs : PlainDirs
  -- each file and symbolic link, by number
  pub files : PlainFiles
  -- the open file description of each descriptor
  pub opens : finite.FinMap nat_cmp OpenFile

-- the directory whose edge leads to a number (Parent Directory)
abbrev pub parent_in : PlainTree → ℕ → Option ℕ
parent_in p i = option_map (λ e. e.0.dir) (find (λ e. number_of e.1 == i) (finite.entries p.edges))

-- all names of a directory, in the order of their bytes, with what they lead to
abbrev pub names_in : PlainTree → ℕ → List (List ℕ × Node)
names_in p d = map (λ e. (e.0.name, e.1)) (finite.entries (finite.retain_keys p.edges (λ e. e.dir == d)))

-- how many edges lead to a number (Link Count)
abbrev pub links_in : PlainTree → ℕ → ℕ
links_in p i = length (filter (λ e. number_of e.1 == i) (finite.entries p.edges))

-- what a plain tree shows for each cell; only a directory has a parent, and only a number that is
-- not a directory has links
abbrev pub view_in : PlainTree → View
view_in p (Entry entry) = finite.get p.edges entry
view_in p (Names d) = names_in p d
view_in p (Parent d) = cond (finite.contains_key p.dirs d) (parent_in p d) None
view_in p (Links i) = cond (finite.contains_key p.dirs i) 0 (links_in p i)
view_in p (Bytes i) = option_map_or (λ (f : PlainFile). f.contents) (finite.get p.files i) no_contents
view_in p (Fd f) = finite.get p.opens f
view_in p (DirAttributes d) = option_flatten (finite.get p.dirs d)
view_in p (FileAttributes i) = option_map_or (λ (f : PlainFile). f.attributes) (finite.get p.files i) None
