-- The laws of setting cells.
use Rattle.std.proofs.Common.{ℕ}
use Rattle.ft_cells.specs.declared.cell.Cell.{Cell}
use Rattle.ft_cells.specs.declared.cell.Cell.TheVariants.{Entry, Names, Parent, Links, Bytes, Fd, DirAttributes, FileAttributes}
use Rattle.ft_cells.specs.Cells.{Cells, HasDirPlace, HasFilePlace, HasOpenPlace, dir_of, put_dir_entry, put_dir_parent, put_kept_of_dir}
use Rattle.ft_tree.specs.Held.{Holds, set_cell, IsStored, CanSet}
use Rattle.ft_posix.specs.CellLaws.{SettingLaw}
use Rattle.ft_posix.proofs.Held.{cell_written, cell_kept}
use Rattle.ft_posix.proofs.Places.{dir_place-entry, dir_place-put_dir, dir_place-set, file_place-put_file, file_place-set, open_place-put_open, open_place-set, entry_place-put_entry, entry_place-put_parent, entry_place-put_dir_attributes, entry_place-set}

dir-stays : (s : Cells) (c : Cell) (v : Holds c) (d : ℕ) → HasDirPlace s d → HasDirPlace (set_cell s c v) d
dir-stays s (Entry entry) v d h = dir_place-put_dir s entry.dir (put_dir_entry (dir_of s entry.dir) entry.name v) d h
dir-stays s (Parent e) v d h = dir_place-put_dir s e (put_dir_parent (dir_of s e) v) d h
dir-stays s (Names e) v d h = h
dir-stays s (Links i) v d h = h
dir-stays s (Bytes i) v d h = h
dir-stays s (Fd f) v d h = h
dir-stays s (DirAttributes e) v d h = dir_place-put_dir s e (put_kept_of_dir (dir_of s e) v) d h
dir-stays s (FileAttributes i) v d h = h

file-stays : (s : Cells) (c : Cell) (v : Holds c) (i : ℕ) → HasFilePlace s i → HasFilePlace (set_cell s c v) i
file-stays s (Links j) v i h = file_place-put_file s j _ i h
file-stays s (Bytes j) v i h = file_place-put_file s j _ i h
file-stays s (Entry entry) v i h = h
file-stays s (Names e) v i h = h
file-stays s (Parent e) v i h = h
file-stays s (Fd f) v i h = h
file-stays s (DirAttributes d) v i h = h
file-stays s (FileAttributes j) v i h = file_place-put_file s j _ i h

open-stays : (s : Cells) (c : Cell) (v : Holds c) (f : ℕ) → HasOpenPlace s f → HasOpenPlace (set_cell s c v) f
open-stays s (Fd g) v f h = open_place-put_open s g v f h
open-stays s (Entry entry) v f h = h
open-stays s (Names e) v f h = h
open-stays s (Parent e) v f h = h
open-stays s (Links j) v f h = h
open-stays s (Bytes j) v f h = h
open-stays s (DirAttributes d) v f h = h
open-stays s (FileAttributes j) v f h = h

stays : (s : Cells) (c : Cell) (v : Holds c) (x : Cell) → IsStored s x → IsStored (set_cell s c v) x
stays s (Entry entry) v (Entry other) h = entry_place-put_entry s entry.dir entry.name v other.dir other.name h
stays s (Parent e) v (Entry entry) h = entry_place-put_parent s e v entry.dir entry.name h
stays s (Names e) v (Entry entry) h = h
stays s (Links j) v (Entry entry) h = h
stays s (Bytes j) v (Entry entry) h = h
stays s (Fd g) v (Entry entry) h = h
stays s (DirAttributes e) v (Entry entry) h = entry_place-put_dir_attributes s e v entry.dir entry.name h
stays s (FileAttributes j) v (Entry entry) h = h
stays s c v (Names d) h = dir-stays s c v d h
stays s c v (Parent d) h = dir-stays s c v d h
stays s c v (Links i) h = file-stays s c v i h
stays s c v (Bytes i) h = file-stays s c v i h
stays s c v (Fd f) h = open-stays s c v f h
stays s c v (DirAttributes d) h = dir-stays s c v d h
stays s c v (FileAttributes i) h = file-stays s c v i h

stored : (s : Cells) (c : Cell) (v : Holds c) → CanSet s c → IsStored (set_cell s c v) c
stored s (Entry entry) v can = entry_place-set s entry.dir entry.name v
stored s (Names d) v can = can
stored s (Parent d) v can = dir_place-set s d (put_dir_parent (dir_of s d) v)
stored s (Links i) v can = file_place-set s i _
stored s (Bytes i) v can = file_place-set s i _
stored s (Fd f) v can = open_place-set s f v
stored s (DirAttributes d) v can = dir_place-set s d (put_kept_of_dir (dir_of s d) v)
stored s (FileAttributes i) v can = file_place-set s i _

pub setting : SettingLaw
setting = record { written = cell_written; kept = cell_kept; stays = stays; stored = stored; within = dir_place-entry }
