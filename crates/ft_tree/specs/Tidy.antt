-- The plain tree of stored cells. (A rule of this project. POSIX.1-2017, System Interfaces, unlink
-- and close, say that a file which nothing names is removed.)
use Rattle.std.specs.Prelude.{ℕ, Bool, ◌||◌, nat_lt, List, [], ◌∷◌, ◌++◌, map, filter, Option}
use Rattle.std.specs.List.{filter_map}
use Rattle.std.specs.Option.{option_map}
use Rattle.std.specs.FinMap as finite
use Rattle.ft_cells.specs.declared.entry.Entry.{Entry}
use Rattle.ft_cells.specs.Entries.{entry_at}
use Rattle.ft_cells.specs.declared.node.Node.{Node}
use Rattle.ft_cells.specs.declared.attributes.Attributes.{Attributes}
use Rattle.ft_cells.specs.declared.open_file.OpenFile.{OpenFile}
use Rattle.ft_cells.specs.Cells.{Cells, DirCells, FileCells, Opens, dir_names, is_there, is_open}
use Rattle.ft_cells.specs.Plain.{PlainFile, PlainTree}

-- the entries of one stored directory, as edges
abbrev pub edges_at : ℕ × DirCells → List (Entry × Node)
edges_at e = map (λ x. (entry_at e.0 x.0, x.1)) (dir_names e.1)

-- the entries of all stored directories, as edges
abbrev pub edges_from : List (ℕ × DirCells) → List (Entry × Node)
edges_from [] = []
edges_from (e ∷ es) = edges_at e ++ edges_from es

-- a directory in the plain tree: its number and its attributes
abbrev pub member : ℕ × DirCells → ℕ × Option Attributes
member e = (e.0, e.1.attributes)

-- the stored directories that exist
abbrev pub dirs_from : List (ℕ × DirCells) → List (ℕ × Option Attributes)
dirs_from es = map member (filter (λ e. is_there e.0 e.1) es)

-- a stored file exists while an entry or a description names it
abbrev pub is_named : Opens → ℕ × FileCells → Bool
is_named opens e = nat_lt 0 e.1.links || is_open opens e.0

-- a file in the plain tree: its number, its attributes and what it holds
abbrev pub plain_file : ℕ × FileCells → ℕ × PlainFile
plain_file e = (e.0, record { attributes = e.1.attributes; contents = e.1.contents })

-- the stored files that exist
abbrev pub files_from : Opens → List (ℕ × FileCells) → List (ℕ × PlainFile)
files_from opens es = map plain_file (filter (is_named opens) es)

-- the description in a place, if there is one
abbrev pub opened : ℕ × Option OpenFile → Option (ℕ × OpenFile)
opened e = option_map (λ o. (e.0, o)) e.1

-- the descriptions in places
abbrev pub opens_from : List (ℕ × Option OpenFile) → List (ℕ × OpenFile)
opens_from es = filter_map opened es

-- the plain tree of cells: their entries, and the directories, files and descriptions that exist,
-- without empty places and without files that nothing names; it has the limits of the cells
abbrev pub tidy : Cells → PlainTree
tidy cells = record {
  limits = cells.limits;
  edges = finite.from_entries (edges_from (finite.entries cells.directories));
  dirs = finite.from_entries (dirs_from (finite.entries cells.directories));
  files = finite.from_entries (files_from cells.opens (finite.entries cells.files));
  opens = finite.from_entries (opens_from (finite.entries cells.opens));
}
