-- The value that each cell holds, and how one of them is set. Places are a rule of this project.
-- They are not part of what calls do. A place may be there and empty. A call that is undone leaves
-- its places. A call that ran out of memory leaves exactly the cells that it found. Every empty
-- place was therefore left by a call that was granted.
use Rattle.std.specs.Prelude.{ℕ, Option, None}
use Rattle.std.specs.Option.{option_map, option_map_or}
use Rattle.std.specs.FinMap as finite
use Rattle.ft_cells.specs.declared.node.Node.{Node}
use Rattle.ft_cells.specs.declared.attributes.Attributes.{Attributes}
use Rattle.ft_cells.specs.declared.open_file.OpenFile.{OpenFile}
use Rattle.ft_cells.specs.declared.cell.Cell.{Cell}
use Rattle.ft_cells.specs.declared.cell.Cell.TheVariants.{Entry, Names, Parent, Links, Bytes, Fd, DirAttributes, FileAttributes}
use Rattle.ft_cells.specs.Cells.{Cells, DirCells, Contents, no_contents, FileCells, dir_of, put_dir, without_dir_place, entry_of, parent_of, dir_attributes_of, links_of, file_attributes_of, contents_of, open_of, HasDirPlace, HasEntryPlace, HasFilePlace, HasOpenPlace, put_entry, put_parent, put_dir_attributes, put_links, put_file_attributes, put_contents, put_open}

-- what a cell holds by itself; the names of a directory are read from its entries
abbrev pub Holds : Cell → Type 0
Holds (Entry entry) = Option Node
Holds (Names d) = Unit {0}
Holds (Parent d) = Option ℕ
Holds (Links i) = ℕ
Holds (Bytes i) = Contents
Holds (Fd f) = Option OpenFile
Holds (DirAttributes d) = Option Attributes
Holds (FileAttributes i) = Option Attributes

-- the value of a cell
abbrev pub held : Cells → (c : Cell) → Holds c
held cells (Entry entry) = entry_of cells entry.dir entry.name
held cells (Names d) = tt
held cells (Parent d) = parent_of cells d
held cells (Links i) = links_of cells i
held cells (Bytes i) = contents_of cells i
held cells (Fd f) = open_of cells f
held cells (DirAttributes d) = dir_attributes_of cells d
held cells (FileAttributes i) = file_attributes_of cells i

-- what a cell holds if nothing is stored
abbrev pub blank : (c : Cell) → Holds c
blank (Entry entry) = None
blank (Names d) = tt
blank (Parent d) = None
blank (Links i) = 0
blank (Bytes i) = no_contents
blank (Fd f) = None
blank (DirAttributes d) = None
blank (FileAttributes i) = None

-- the cells with one of them set; the names of a directory are never set
abbrev pub set_cell : Cells → (c : Cell) → Holds c → Cells
set_cell cells (Entry entry) to = put_entry cells entry.dir entry.name to
set_cell cells (Names d) to = cells
set_cell cells (Parent d) to = put_parent cells d to
set_cell cells (Links i) to = put_links cells i to
set_cell cells (Bytes i) to = put_contents cells i to
set_cell cells (Fd f) to = put_open cells f to
set_cell cells (DirAttributes d) to = put_dir_attributes cells d to
set_cell cells (FileAttributes i) to = put_file_attributes cells i to

-- the content of the place of a cell, if that place is there
abbrev pub place_at : Cells → (c : Cell) → Option (Holds c)
place_at cells (Entry entry) = finite.get (dir_of cells entry.dir).entries entry.name
place_at cells (Names d) = option_map (λ x. tt) (finite.get cells.directories d)
place_at cells (Parent d) = option_map (λ (x : DirCells). x.parent) (finite.get cells.directories d)
place_at cells (Links i) = option_map (λ (x : FileCells). x.links) (finite.get cells.files i)
place_at cells (Bytes i) = option_map (λ (x : FileCells). x.contents) (finite.get cells.files i)
place_at cells (Fd f) = finite.get cells.opens f
place_at cells (DirAttributes d) = option_map (λ (x : DirCells). x.attributes) (finite.get cells.directories d)
place_at cells (FileAttributes i) = option_map (λ (x : FileCells). x.attributes) (finite.get cells.files i)

-- the cells without the place of one of them, and without all the content of that place. A
-- directory goes with its attributes and entries, and a file with its links, attributes and bytes.
-- The names of a directory have no place.
abbrev pub without_place : Cells → Cell → Cells
without_place cells (Entry entry) = option_map_or (λ x. put_dir cells entry.dir (without_dir_place x entry.name)) (finite.get cells.directories entry.dir) cells
without_place cells (Names d) = cells
without_place cells (Parent d) = record cells { directories = finite.remove cells.directories d }
without_place cells (Links i) = record cells { files = finite.remove cells.files i }
without_place cells (Bytes i) = record cells { files = finite.remove cells.files i }
without_place cells (Fd f) = record cells { opens = finite.remove cells.opens f }
without_place cells (DirAttributes d) = record cells { directories = finite.remove cells.directories d }
without_place cells (FileAttributes i) = record cells { files = finite.remove cells.files i }

-- the place of a cell is there, so that the cell can be set without memory
abbrev pub IsStored : Cells → Cell → Type 0
IsStored cells (Entry entry) = HasEntryPlace cells entry.dir entry.name
IsStored cells (Names d) = HasDirPlace cells d
IsStored cells (Parent d) = HasDirPlace cells d
IsStored cells (Links i) = HasFilePlace cells i
IsStored cells (Bytes i) = HasFilePlace cells i
IsStored cells (Fd f) = HasOpenPlace cells f
IsStored cells (DirAttributes d) = HasDirPlace cells d
IsStored cells (FileAttributes i) = HasFilePlace cells i

-- a cell can be set if there is memory, under these conditions: for an entry its directory is
-- stored, for bytes their file, and for attributes their directory or file
abbrev pub CanSet : Cells → Cell → Type 0
CanSet cells (Entry entry) = HasDirPlace cells entry.dir
CanSet cells (Names d) = HasDirPlace cells d
CanSet cells (Parent d) = Unit {0}
CanSet cells (Links i) = Unit {0}
CanSet cells (Bytes i) = HasFilePlace cells i
CanSet cells (Fd f) = Unit {0}
CanSet cells (DirAttributes d) = HasDirPlace cells d
CanSet cells (FileAttributes i) = HasFilePlace cells i
