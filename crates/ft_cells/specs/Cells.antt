-- The stored cells of a tree, and how one of them is read and set (POSIX.1-2017, Base Definitions,
-- 3: Directory Entry, Parent Directory, Link Count, Open File Description). That cells are stored
-- in places, which may be empty, is a rule of this project.
-- Attributes are stored if they are not the defaults of a directory or file, and a time is stored
-- if one was set. Most directories and files therefore store neither.
use Rattle.std.specs.Prelude.{ℕ, Bool, false, cond, ◌==◌, ◌||◌, nat_lt, List, [], Option, Some, None, IsSome, is_some, unwrap_or, refl}
use Rattle.std.specs.Ordering.{nat_cmp}
use Rattle.std.specs.Cmp.Lexicographic.{slice_cmp}
use Rattle.std.specs.Option.{option_flatten, option_map, option_map_or}
use Rattle.std.specs.List.{filter_map, list_any}
use Rattle.std.specs.FinMap as finite
use Rattle.std.specs.Coded.{Coded, code_by, coded×, coded_ℕ, coded_list, coded_option}
use Rattle.ft_cells.specs.declared.node.Kind.{Kind}
use Rattle.ft_cells.specs.declared.node.Kind.TheVariants.{Dir as DirKind, File as FileKind}
use Rattle.ft_cells.specs.declared.node.Node.{Node}
use Rattle.ft_cells.specs.declared.attributes.Attributes.{Attributes}
use Rattle.ft_cells.specs.contracts.attributes.Attributes as attributes
use Rattle.ft_cells.specs.declared.attributes.Timestamp.{Timestamp}
use Rattle.ft_cells.specs.contracts.attributes.Timestamp as timestamp
use Rattle.ft_cells.specs.declared.open_file.OpenFile.{OpenFile}
use Rattle.ft_cells.specs.contracts.open_file.OpenFile as open_file
use Rattle.ft_cells.specs.declared.limits.TreeLimits.{TreeLimits}
use Rattle.ft_cells.specs.contracts.limits.TreeLimits as allowed
use Rattle.ft_cells.specs.Nodes.{coded_node}

-- The stored form of one directory: its parent or none, its attributes, and a place for each of its
-- names. The parent is the directory that has its entry. A place may be empty.
pub record DirCells : Type 0 where
  pub parent : Option ℕ
  pub attributes : Option Attributes
  pub entries : finite.FinMap (slice_cmp nat_cmp) (Option Node)

-- how one stored directory is coded
abbrev pub coded_dir_cells : Coded DirCells
coded_dir_cells =
    code_by (Option ℕ × (Option Attributes × finite.FinMap (slice_cmp nat_cmp) (Option Node)))
    (coded× (coded_option coded_ℕ) (coded× (coded_option attributes.the_row.coded) (finite.code (coded_list coded_ℕ) (coded_option coded_node))))
    (λ d. (d.parent, (d.attributes, d.entries))) (λ p. record { parent = p.0; attributes = p.1.0; entries = p.1.1 }) (λ _. refl)

-- The contents of a file: its bytes, and their time if one was set (POSIX.1-2017, Base Definitions,
-- 4.9 File Times Update: the last data modification). No clock is read, a rule of this project.
pub record Contents : Type 0 where
  pub bytes : List ℕ
  pub time : Option Timestamp

-- how the contents of a file are coded
abbrev pub coded_contents : Coded Contents
coded_contents = code_by (List ℕ × Option Timestamp) (coded× (coded_list coded_ℕ) (coded_option timestamp.the_row.coded)) (λ c. (c.bytes, c.time)) (λ p. record { bytes = p.0; time = p.1 }) (λ _. refl)

-- bytes without a time, as a write leaves them
abbrev pub untimed : List ℕ → Contents
untimed bytes = record { bytes = bytes; time = None }

-- these contents with this time, or with none
abbrev pub timed : Contents → Option Timestamp → Contents
timed contents time = record { bytes = contents.bytes; time = time }

-- no byte and no time
abbrev pub no_contents : Contents
no_contents = untimed []

-- The contents of a file before and after a change.
pub record ContentsChange : Type 0 where
  pub before : Contents
  pub after : Contents

-- The stored form of one file: how many entries name it (Link Count), its attributes, and its
-- contents.
pub record FileCells : Type 0 where
  pub links : ℕ
  pub attributes : Option Attributes
  pub contents : Contents

-- how one stored file is coded
abbrev pub coded_file_cells : Coded FileCells
coded_file_cells =
    code_by (ℕ × (Option Attributes × Contents))
    (coded× coded_ℕ (coded× (coded_option attributes.the_row.coded) coded_contents))
    (λ f. (f.links, (f.attributes, f.contents))) (λ p. record { links = p.0; attributes = p.1.0; contents = p.1.1 }) (λ _. refl)

-- The open file descriptions, by descriptor: a place for each, which may be empty.
abbrev pub Opens : Type 0
Opens = finite.FinMap nat_cmp (Option OpenFile)

-- The stored cells of a tree: its limits, its directories and files by number, and its descriptions
-- by descriptor.
pub record Cells : Type 0 where
  pub limits : TreeLimits
  pub directories : finite.FinMap nat_cmp DirCells
  pub files : finite.FinMap nat_cmp FileCells
  pub opens : Opens

-- how the stored cells are coded. A reader does not need to know this.
abbrev pub coded_cells : Coded Cells
coded_cells =
    code_by (TreeLimits × (finite.FinMap nat_cmp DirCells × (finite.FinMap nat_cmp FileCells × Opens)))
    (coded× allowed.the_row.coded (coded× (finite.code coded_ℕ coded_dir_cells) (coded× (finite.code coded_ℕ coded_file_cells) (finite.code coded_ℕ (coded_option open_file.the_row.coded)))))
    (λ c. (c.limits, (c.directories, (c.files, c.opens)))) (λ p. record { limits = p.0; directories = p.1.0; files = p.1.1.0; opens = p.1.1.1 }) (λ _. refl)

-- what a name leads to in one directory; an empty or missing place is not an entry
abbrev pub dir_entry : DirCells → List ℕ → Option Node
dir_entry d name = option_flatten (finite.get d.entries name)

-- the content of a place, with its name, if the place is not empty
abbrev pub filled : List ℕ × Option Node → Option (List ℕ × Node)
filled e = option_map (λ x. (e.0, x)) e.1

-- the entries of a directory in the order of the bytes of their names (a rule of this project),
-- without the empty places
abbrev pub dir_names : DirCells → List (List ℕ × Node)
dir_names d = filter_map filled (finite.entries d.entries)

-- a directory that is not stored reads as one with no parent, no attributes and no entry
abbrev pub no_dir : DirCells
no_dir = record { parent = None; attributes = None; entries = finite.empty }

-- what is stored of the directory of this number
abbrev pub dir_of : Cells → ℕ → DirCells
dir_of cells d = unwrap_or (finite.get cells.directories d) no_dir

-- a file that is not stored reads as one with no entry, no attributes and no byte
abbrev pub no_file : FileCells
no_file = record { links = 0; attributes = None; contents = no_contents }

-- what is stored of the file of this number
abbrev pub file_of : Cells → ℕ → FileCells
file_of cells i = unwrap_or (finite.get cells.files i) no_file

-- how many directories are stored, including emptied places; no path up to the root is longer
abbrev pub directory_count : Cells → ℕ
directory_count cells = finite.len cells.directories

-- The value of each cell.

-- what a name leads to in a directory (Directory Entry)
abbrev pub entry_of : Cells → ℕ → List ℕ → Option Node
entry_of cells d name = dir_entry (dir_of cells d) name

-- all names of a directory, with what they lead to
abbrev pub names_of : Cells → ℕ → List (List ℕ × Node)
names_of cells d = dir_names (dir_of cells d)

-- the directory that has a directory's entry (Parent Directory)
abbrev pub parent_of : Cells → ℕ → Option ℕ
parent_of cells d = (dir_of cells d).parent

-- the attributes that are stored of a directory
abbrev pub dir_attributes_of : Cells → ℕ → Option Attributes
dir_attributes_of cells d = (dir_of cells d).attributes

-- how many entries name a file (Link Count)
abbrev pub links_of : Cells → ℕ → ℕ
links_of cells i = (file_of cells i).links

-- the attributes that are stored of a file
abbrev pub file_attributes_of : Cells → ℕ → Option Attributes
file_attributes_of cells i = (file_of cells i).attributes

-- what a file holds
abbrev pub contents_of : Cells → ℕ → Contents
contents_of cells i = (file_of cells i).contents

-- the bytes of a file
abbrev pub bytes_of : Cells → ℕ → List ℕ
bytes_of cells i = (contents_of cells i).bytes

-- the time of the bytes of a file, if one was set
abbrev pub time_of : Cells → ℕ → Option Timestamp
time_of cells i = (contents_of cells i).time

-- the bytes of a file, if the file is stored
abbrev pub body_in : Cells → ℕ → Option (List ℕ)
body_in cells i = option_map (λ (f : FileCells). f.contents.bytes) (finite.get cells.files i)

-- the open file description of a descriptor, if it is open
abbrev pub open_of : Cells → ℕ → Option OpenFile
open_of cells f = option_flatten (finite.get cells.opens f)

-- Places, empty or not. A place that is stored can be set without taking memory (a rule of this
-- project).

-- the directory of this number is stored
abbrev pub HasDirPlace : Cells → ℕ → Type 0
HasDirPlace cells d = IsSome (finite.get cells.directories d)

-- the name has a place in a stored directory
abbrev pub HasPlace : DirCells → List ℕ → Type 0
HasPlace d name = IsSome (finite.get d.entries name)

-- the name has a place in the directory of this number
abbrev pub HasEntryPlace : Cells → ℕ → List ℕ → Type 0
HasEntryPlace cells d name = HasPlace (dir_of cells d) name

-- the file of this number is stored
abbrev pub HasFilePlace : Cells → ℕ → Type 0
HasFilePlace cells i = IsSome (finite.get cells.files i)

-- the descriptor has a place, empty or not
abbrev pub HasOpenPlace : Cells → ℕ → Type 0
HasOpenPlace cells f = IsSome (finite.get cells.opens f)

-- The cells with one of them set, and nothing else changed.

-- one directory, with what a name leads to set, or with the name not an entry
abbrev pub put_dir_entry : DirCells → List ℕ → Option Node → DirCells
put_dir_entry d name to = record { parent = d.parent; attributes = d.attributes; entries = finite.insert d.entries name to }

-- one directory with its parent set, or with no parent
abbrev pub put_dir_parent : DirCells → Option ℕ → DirCells
put_dir_parent d parent = record { parent = parent; attributes = d.attributes; entries = d.entries }

-- one directory with its stored attributes set, or with none
abbrev pub put_kept_of_dir : DirCells → Option Attributes → DirCells
put_kept_of_dir d to = record { parent = d.parent; attributes = to; entries = d.entries }

-- the cells with all that is stored of a directory set
abbrev pub put_dir : Cells → ℕ → DirCells → Cells
put_dir cells d x = record cells { directories = finite.insert cells.directories d x }

-- the cells with what a name leads to in a directory set, or with the name not an entry
abbrev pub put_entry : Cells → ℕ → List ℕ → Option Node → Cells
put_entry cells d name to = put_dir cells d (put_dir_entry (dir_of cells d) name to)

-- the cells with the parent of a directory set, or with none
abbrev pub put_parent : Cells → ℕ → Option ℕ → Cells
put_parent cells d parent = put_dir cells d (put_dir_parent (dir_of cells d) parent)

-- the cells with the stored attributes of a directory set, or with none
abbrev pub put_dir_attributes : Cells → ℕ → Option Attributes → Cells
put_dir_attributes cells d to = put_dir cells d (put_kept_of_dir (dir_of cells d) to)

-- the cells with all that is stored of a file set
abbrev pub put_file : Cells → ℕ → FileCells → Cells
put_file cells i x = record cells { files = finite.insert cells.files i x }

-- the cells with the link count of a file set
abbrev pub put_links : Cells → ℕ → ℕ → Cells
put_links cells i links = put_file cells i (record { links = links; attributes = file_attributes_of cells i; contents = contents_of cells i })

-- the cells with the stored attributes of a file set, or with none
abbrev pub put_file_attributes : Cells → ℕ → Option Attributes → Cells
put_file_attributes cells i to = put_file cells i (record { links = links_of cells i; attributes = to; contents = contents_of cells i })

-- the cells with what a file holds set
abbrev pub put_contents : Cells → ℕ → Contents → Cells
put_contents cells i contents = put_file cells i (record { links = links_of cells i; attributes = file_attributes_of cells i; contents = contents })

-- the cells with the description of a descriptor set, or with the descriptor closed
abbrev pub put_open : Cells → ℕ → Option OpenFile → Cells
put_open cells f to = record cells { opens = finite.insert cells.opens f to }

-- a directory without the place of an entry
abbrev pub without_dir_place : DirCells → List ℕ → DirCells
without_dir_place d name = record { parent = d.parent; attributes = d.attributes; entries = finite.remove d.entries name }

-- only the root, without an entry: the tree at first (Root Directory)
abbrev pub fresh_cells : TreeLimits → Cells
fresh_cells limits = record { limits = limits; directories = finite.insert finite.empty 1 no_dir; files = finite.empty; opens = finite.empty }

-- a stored directory exists if it is the root or has a parent; otherwise it is a place that was
-- emptied (a rule of this project)
abbrev pub is_there : ℕ → DirCells → Bool
is_there i d = (i == 1) || is_some d.parent

-- the directory of this number exists
abbrev pub has_dir : Cells → ℕ → Bool
has_dir cells i = option_map_or (is_there i) (finite.get cells.directories i) false

-- the place holds a description of file i
abbrev pub is_of_file : ℕ → ℕ × Option OpenFile → Bool
is_of_file i e = option_map_or (λ (o : OpenFile). o.file == i) e.1 false

-- some descriptor has file i open
abbrev pub is_open : Opens → ℕ → Bool
is_open opens i = list_any (is_of_file i) (finite.entries opens)

-- a file exists while an entry or a description names it (POSIX.1-2017, System Interfaces, unlink
-- and close)
abbrev pub has_file : Cells → ℕ → Bool
has_file cells i = nat_lt 0 (links_of cells i) || is_open cells.opens i

-- what a number names: a directory or a file that exists, and otherwise nothing (a rule of this
-- project)
abbrev pub kind_of : Cells → ℕ → Option Kind
kind_of cells i = cond (has_dir cells i) (Some DirKind) (cond (has_file cells i) (Some FileKind) None)
