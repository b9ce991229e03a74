-- The content of a tree, row by row. (A rule of this project.)
use Rattle.std.specs.Prelude.{ℕ, List, ◌++◌, map, length, Option}
use Rattle.std.specs.List.{filter_map}
use Rattle.std.specs.Option.{option_map}
use Rattle.std.specs.FinMap as finite
use Rattle.ft_cells.specs.Entries.{entry_at}
use Rattle.ft_cells.specs.declared.entry.Entry.{Entry}
use Rattle.ft_cells.specs.declared.node.Node.{Node}
use Rattle.ft_cells.specs.declared.row.TreeRow.{TreeRow}
use Rattle.ft_cells.specs.declared.attributes.Attributes.{Attributes}
use Rattle.ft_cells.specs.declared.open_file.OpenFile.{OpenFile}
use Rattle.ft_cells.specs.declared.row.TreeRow.TheVariants.{Dir as DirRow, Edge as EdgeRow, File as FileRow, Attributes as AttributesRow, Time as TimeRow, Fd as FdRow}
use Rattle.ft_cells.specs.Plain.{PlainFile, PlainTree}

-- a row for each directory
abbrev pub dir_rows : List (ℕ × Option Attributes) → List TreeRow
dir_rows dirs = map (λ e. DirRow e.0) dirs

-- a row for each edge, with what it leads to
abbrev pub edge_rows : List (Entry × Node) → List TreeRow
edge_rows edges = map (λ e. EdgeRow e.0 e.1) edges

-- the rows of the names of one directory
abbrev pub named_rows : ℕ → List (List ℕ × Node) → List TreeRow
named_rows d names = map (λ e. EdgeRow (entry_at d e.0) e.1) names

-- a row for each file, with its size and its bytes
abbrev pub file_rows : List (ℕ × PlainFile) → List TreeRow
file_rows files = map (λ e. FileRow e.0 (length e.1.contents.bytes) e.1.contents.bytes) files

-- the row of attributes, if some are stored
abbrev pub attributes_row : ℕ × Option Attributes → Option TreeRow
attributes_row e = option_map (λ a. AttributesRow e.0 a) e.1

-- the row of the attributes of a file, if some are stored
abbrev pub file_attributes_row : ℕ × PlainFile → Option TreeRow
file_attributes_row e = attributes_row (e.0, e.1.attributes)

-- the row of the time of the bytes of a file, if a time was set
abbrev pub time_row : ℕ × PlainFile → Option TreeRow
time_row e = option_map (λ time. TimeRow e.0 time) e.1.contents.time

-- the rows of the attributes that are stored of directories
abbrev pub dir_attributes_rows : List (ℕ × Option Attributes) → List TreeRow
dir_attributes_rows dirs = filter_map attributes_row dirs

-- the rows of the attributes that are stored of files
abbrev pub file_attributes_rows : List (ℕ × PlainFile) → List TreeRow
file_attributes_rows files = filter_map file_attributes_row files

-- the rows of the times of files
abbrev pub time_rows : List (ℕ × PlainFile) → List TreeRow
time_rows files = filter_map time_row files

-- a row for each descriptor, with its description
abbrev pub open_rows : List (ℕ × OpenFile) → List TreeRow
open_rows opens = map (λ e. FdRow e.0 e.1.file e.1.access e.1.append e.1.offset) opens

-- the rows of a tree. First come the directories by number, the edges by directory and name, and
-- the files by number. Then come the stored attributes, of directories and then of files, by
-- number. Last come the times of files by number, and the descriptions by descriptor.
abbrev pub rows_of : PlainTree → List TreeRow
rows_of p =
    dir_rows (finite.entries p.dirs) ++ edge_rows (finite.entries p.edges) ++ file_rows (finite.entries p.files)
    ++ dir_attributes_rows (finite.entries p.dirs) ++ file_attributes_rows (finite.entries p.files) ++ time_rows (finite.entries p.files)
    ++ open_rows (finite.entries p.opens)
