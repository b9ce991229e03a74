-- The edits of a call: the cells after them, and when they can be made.
use Rattle.std.specs.Prelude.{◌≡◌, ◌≤◌, ℕ, false, List, [], ◌∷◌}
use Rattle.std.specs.FinMap as finite
use Rattle.ft_body.specs.declared.TheConstants.{LARGEST_SIZE}
use Rattle.ft_cells.specs.declared.cell.Cell.{Cell}
use Rattle.ft_cells.specs.declared.cell.Cell.TheVariants as cell
use Rattle.ft_cells.specs.CellOrder.{same_cell}
use Rattle.ft_cells.specs.Cells.{Cells, HasDirPlace, HasFilePlace}
use Rattle.ft_tree.specs.Held.{held, CanSet}
use Rattle.ft_tree.specs.Sound.{AreSoundCells}
use Rattle.ft_posix.specs.declared.call.Call.{Call}
use Rattle.ft_posix.specs.declared.call.Mode.TheVariants.{Write as WriteMode}
use Rattle.ft_posix.specs.declared.intent.Edit.{Edit}
use Rattle.ft_posix.specs.declared.intent.Edit.TheVariants.{Entry, Parent, Links, Overwrite, Resize, Open, DirAttributes, FileAttributes, Time}
use Rattle.ft_posix.specs.Outcomes.{Write}
use Rattle.ft_posix.specs.Accesses.{Modes, written_cell}
use Rattle.ft_posix.specs.Stored.{put, put_all, outcome}
use Rattle.ft_posix.specs.Computes.{write_of, writes_of}

-- the cell that is edited
abbrev pub edit_cell : Edit → Cell
edit_cell (Entry entry to) = cell.Entry entry
edit_cell (Parent d to) = cell.Parent d
edit_cell (Links i to) = cell.Links i
edit_cell (Overwrite i at bytes) = cell.Bytes i
edit_cell (Resize i size) = cell.Bytes i
edit_cell (Open f to) = cell.Fd f
edit_cell (DirAttributes d to) = cell.DirAttributes d
edit_cell (FileAttributes i to) = cell.FileAttributes i
edit_cell (Time i to) = cell.Bytes i

-- the edited cells are written
abbrev pub with_edits : Modes → List Edit → Modes
with_edits m [] = m
with_edits m (e ∷ es) = with_edits (finite.insert m (edit_cell e) WriteMode) es

-- the cell is none of the edited cells
abbrev pub IsOther : Cell → List Edit → Type 0
IsOther c [] = Unit {0}
IsOther c (e ∷ es) = (same_cell c (edit_cell e) ≡ false) × IsOther c es

-- the cells of the edits are all different
abbrev pub Apart : List Edit → Type 0
Apart [] = Unit {0}
Apart (e ∷ es) = IsOther (edit_cell e) es × Apart es

-- the cells after the edits, made one after another
abbrev pub edited : Cells → List Edit → Cells
edited cells [] = cells
edited cells (e ∷ es) = edited (put cells (write_of cells e)) es

-- an edit can be made, if there is memory
abbrev pub CanEdit : Cells → Edit → Type 0
CanEdit cells (Entry entry to) = HasDirPlace cells entry.dir
CanEdit cells (Parent d to) = Unit {0}
CanEdit cells (Links i to) = Unit {0}
CanEdit cells (Overwrite i at bytes) = HasFilePlace cells i × (at ≤ LARGEST_SIZE)
CanEdit cells (Resize i size) = HasFilePlace cells i × (size ≤ LARGEST_SIZE)
CanEdit cells (Open f to) = Unit {0}
CanEdit cells (DirAttributes d to) = HasDirPlace cells d
CanEdit cells (FileAttributes i to) = HasFilePlace cells i
CanEdit cells (Time i to) = HasFilePlace cells i

-- each edit can be made after those before it
abbrev pub CanEditAll : Cells → List Edit → Type 0
CanEditAll cells [] = Unit {0}
CanEditAll cells (e ∷ es) = CanEdit cells e × CanEditAll (put cells (write_of cells e)) es

-- the cell is none of the written cells
abbrev pub IsOtherThan : Cell → List Write → Type 0
IsOtherThan c [] = Unit {0}
IsOtherThan c (w ∷ ws) = (same_cell c (written_cell w) ≡ false) × IsOtherThan c ws

-- the cells of the writes are all different
abbrev pub AreApart : List Write → Type 0
AreApart [] = Unit {0}
AreApart (w ∷ ws) = IsOtherThan (written_cell w) ws × AreApart ws

-- the cell of a write has its place, or can make it
abbrev pub CanPut : Cells → Write → Type 0
CanPut cells w = CanSet cells (written_cell w)

-- each write can be put after those before it
abbrev pub CanPutAll : Cells → List Write → Type 0
CanPutAll cells [] = Unit {0}
CanPutAll cells (w ∷ ws) = CanPut cells w × CanPutAll (put cells w) ws

-- the writes set different cells, each of which has its place or can make it
pub record CanBeMade (cells : Cells) (ws : List Write) : Type 0 where
  pub places : CanPutAll cells ws
  pub apart : AreApart ws

-- the writes of a call on sound cells can be made
abbrev pub PlacesLaw : Type 0
PlacesLaw = (cells : Cells) (stamp : ℕ) (call : Call) → AreSoundCells cells → CanBeMade cells (outcome cells stamp call).writes

-- each of the edited cells holds the same in both
abbrev pub SameOn : Cells → Cells → List Edit → Type 0
SameOn s t [] = Unit {0}
SameOn s t (e ∷ es) = (held s (edit_cell e) ≡ held t (edit_cell e)) × SameOn s t es

-- edits of different cells do not affect each other
pub record EditingLaw : Type 0 where
  -- the edits leave the cells that their writes leave, as computed before all of them
  pub made : (cells : Cells) (edits : List Edit) → Apart edits → edited cells edits ≡ put_all cells (writes_of cells edits)
  -- the cell of each later edit is as it was before
  pub undisturbed : (s old : Cells) (e : Edit) (es : List Edit) → IsOther (edit_cell e) es → SameOn s old es → SameOn (put s (write_of s e)) old es
