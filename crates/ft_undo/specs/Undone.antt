-- How the edits of a call are undone. (Moss 1981, state restoration: what an aborted call wrote
-- gets back its version from before.)
use Rattle.std.specs.Prelude.{◌≡◌, List, [], ◌∷◌, map, None, Some, unwrap_or, Result, Ok, Err}
use Rattle.std.specs.Option.{option_flatten}
use Rattle.ft_base.specs.declared.memory.Memory.{Memory}
use Rattle.ft_body.specs.declared.TheConstants.{LARGEST_SIZE}
use Rattle.ft_body.specs.Bytes.{fitting, written, resized}
use Rattle.ft_cells.specs.declared.cell.Cell.{Cell}
use Rattle.ft_cells.specs.declared.cell.Cell.TheVariants as cell
use Rattle.ft_cells.specs.Cells.{Cells, untimed, timed, contents_of, bytes_of, dir_attributes_of, file_attributes_of, put_entry, put_parent, put_links, put_contents, put_open, put_dir_attributes, put_file_attributes, HasDirPlace, HasEntryPlace, HasFilePlace, HasOpenPlace}
use Rattle.ft_tree.specs.Held.{held, place_at, without_place, IsStored}
use Rattle.ft_posix.specs.declared.intent.Edit.{Edit}
use Rattle.ft_posix.specs.declared.intent.Edit.TheVariants.{Entry, Parent, Links, Overwrite, Resize, Open, DirAttributes, FileAttributes, Time}
use Rattle.ft_posix.specs.Outcomes.{Write, sets}
use Rattle.ft_posix.specs.Accesses.{written_cell}
use Rattle.ft_posix.specs.Stored.{put}
use Rattle.ft_posix.specs.Computes.{write_of}
use Rattle.ft_posix.specs.Edits.{edited}
use Rattle.ft_undo.specs.declared.undo.BeforeImage.{BeforeImage}
use Rattle.ft_undo.specs.declared.undo.BeforeImage.TheVariants as back

-- The before-image of an edit: the cell, with what was in its place before, or nothing if the place
-- was new. For the bytes and the time of a file, it has the contents before the change and after
-- it.
abbrev pub back_of : Cells → Edit → BeforeImage
back_of cells (Entry entry to) = back.Entry entry (place_at cells (cell.Entry entry))
back_of cells (Parent d to) = back.Parent d (place_at cells (cell.Parent d))
back_of cells (Links i to) = back.Links i (place_at cells (cell.Links i))
back_of cells (Overwrite i at bytes) = back.Bytes i (record { before = contents_of cells i; after = untimed (written (bytes_of cells i) at (fitting LARGEST_SIZE bytes.now at)) })
back_of cells (Resize i size) = back.Bytes i (record { before = contents_of cells i; after = untimed (resized (bytes_of cells i) size) })
back_of cells (Open f to) = back.Open f (place_at cells (cell.Fd f))
back_of cells (DirAttributes d to) = back.DirAttributes d (dir_attributes_of cells d)
back_of cells (FileAttributes i to) = back.FileAttributes i (file_attributes_of cells i)
back_of cells (Time i to) = back.Time i (record { before = contents_of cells i; after = timed (contents_of cells i) to })

-- the before-image of each edit, where each is made on the cells after those before it
abbrev pub backs_of : Cells → List Edit → List BeforeImage
backs_of cells [] = []
backs_of cells (e ∷ es) = back_of cells e ∷ backs_of (put cells (write_of cells e)) es

-- the write that undoes an edit; it leaves a place that was new empty
abbrev pub given_back : BeforeImage → Write
given_back (back.Entry entry was) = sets (cell.Entry entry) (option_flatten was)
given_back (back.Parent d was) = sets (cell.Parent d) (option_flatten was)
given_back (back.Links i was) = sets (cell.Links i) (unwrap_or was 0)
given_back (back.Bytes i change) = sets (cell.Bytes i) change.before
given_back (back.Open f was) = sets (cell.Fd f) (option_flatten was)
given_back (back.DirAttributes d was) = sets (cell.DirAttributes d) was
given_back (back.FileAttributes i was) = sets (cell.FileAttributes i) was
given_back (back.Time i change) = sets (cell.Bytes i) change.before

-- when that write may be made: the cell has its place, and a changed file holds what the change
-- left
abbrev pub CanGiveBack : Cells → BeforeImage → Type 0
CanGiveBack cells (back.Entry entry was) = HasEntryPlace cells entry.dir entry.name × HasDirPlace cells entry.dir
CanGiveBack cells (back.Parent d was) = HasDirPlace cells d
CanGiveBack cells (back.Links i was) = HasFilePlace cells i
CanGiveBack cells (back.Bytes i change) = HasFilePlace cells i × (contents_of cells i ≡ change.after)
CanGiveBack cells (back.Open f was) = HasOpenPlace cells f
CanGiveBack cells (back.DirAttributes d was) = HasDirPlace cells d
CanGiveBack cells (back.FileAttributes i was) = HasFilePlace cells i
CanGiveBack cells (back.Time i change) = HasFilePlace cells i × (contents_of cells i ≡ change.after)

-- when all of these writes may be made, one after another
abbrev pub CanGiveAllBack : Cells → List BeforeImage → Type 0
CanGiveAllBack cells [] = Unit {0}
CanGiveAllBack cells (b ∷ bs) = CanGiveBack cells b × CanGiveAllBack (put cells (given_back b)) bs

-- The cells after the edit that was the last one is undone as if it had never been made: a place
-- that was new is removed too.
abbrev pub restore : Cells → BeforeImage → Cells
restore cells (back.Entry entry None) = without_place cells (cell.Entry entry)
restore cells (back.Entry entry (Some was)) = put_entry cells entry.dir entry.name was
restore cells (back.Parent d None) = without_place cells (cell.Parent d)
restore cells (back.Parent d (Some was)) = put_parent cells d was
restore cells (back.Links i None) = without_place cells (cell.Links i)
restore cells (back.Links i (Some was)) = put_links cells i was
restore cells (back.Bytes i change) = put_contents cells i change.before
restore cells (back.Open f None) = without_place cells (cell.Fd f)
restore cells (back.Open f (Some was)) = put_open cells f was
restore cells (back.DirAttributes d was) = put_dir_attributes cells d was
restore cells (back.FileAttributes i was) = put_file_attributes cells i was
restore cells (back.Time i change) = put_contents cells i change.before

-- the cells after all edits are undone, the last one first
abbrev pub restored : Cells → List BeforeImage → Cells
restored cells [] = cells
restored cells (b ∷ bs) = restore (restored cells bs) b

-- each edit may be undone when its turn comes, the last one first
abbrev pub CanRestoreAll : Cells → List BeforeImage → Type 0
CanRestoreAll cells [] = Unit {0}
CanRestoreAll cells (b ∷ bs) = CanRestoreAll cells bs × CanGiveBack (restored cells bs) b

-- the edits are made, and these are their before-images; or there was not enough memory, and
-- nothing has changed or is kept
abbrev pub IsApplied : Cells → List Edit → Cells → List BeforeImage → Result (Unit {0}) Memory → Type 0
IsApplied old edits new undo (Ok done) = (new ≡ edited old edits) × (undo ≡ backs_of old edits)
IsApplied old edits new undo (Err memory) = (new ≡ old) × (undo ≡ [])

-- each edit, as it was made on the cells before it, can be undone by itself in these cells
abbrev pub IsLeft : Cells → Cells → List Edit → Type 0
IsLeft cells before [] = Unit {0}
IsLeft cells before (edit ∷ edits) = CanGiveBack cells (back_of before edit) × IsLeft cells (put before (write_of before edit)) edits

-- each of the cells has its place, and holds what it holds in the cells that were left
abbrev pub AreAsLeft : Cells → Cells → List Cell → Type 0
AreAsLeft cells left [] = Unit {0}
AreAsLeft cells left (c ∷ cs) = IsStored cells c × (held cells c ≡ held left c) × AreAsLeft cells left cs

-- these before-images may be given back to any cells that hold what the writes left
abbrev pub MayRevert : Cells → List Write → List BeforeImage → Type 0
MayRevert left writes images = (cells : Cells) → AreAsLeft cells left (map written_cell writes) → CanGiveAllBack cells images
