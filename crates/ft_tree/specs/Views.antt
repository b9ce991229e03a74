-- The values that the stored cells show.
use Rattle.std.specs.Prelude.{◌≡◌}
use Rattle.ft_cells.specs.declared.cell.Cell.{Cell}
use Rattle.ft_cells.specs.declared.cell.Cell.TheVariants.{Entry, Names, Parent, Links, Bytes, Fd, DirAttributes, FileAttributes}
use Rattle.ft_cells.specs.Cells.{Cells, entry_of, names_of, parent_of, dir_attributes_of, links_of, file_attributes_of, contents_of, open_of}
use Rattle.ft_cells.specs.Looks.{Looks, View, all_noted, looked_at}

-- each cell shows its value
abbrev pub view_of : Cells → View
view_of cells (Entry entry) = entry_of cells entry.dir entry.name
view_of cells (Names d) = names_of cells d
view_of cells (Parent d) = parent_of cells d
view_of cells (Links i) = links_of cells i
view_of cells (Bytes i) = contents_of cells i
view_of cells (Fd f) = open_of cells f
view_of cells (DirAttributes d) = dir_attributes_of cells d
view_of cells (FileAttributes i) = file_attributes_of cells i

-- a reader has noted each cell that a walk looks at, in order
abbrev pub NotesLooks : {R A : Type 0} → (R → Cell → R) → Cells → Looks A → R → R → Type 0
NotesLooks noted cells walk old new = new ≡ all_noted noted old (looked_at walk (view_of cells))
