-- The calls on a tree, as calls in the abstract.
-- They meet the laws of ft_laws (`Lawful posix_calls`), so its theorems on runs hold of them,
-- exchange and deletion first.
use Rattle.std.specs.Prelude.{ℕ, Bool, false, ◌==◌, map, Option, Some, None}
use Rattle.ft_laws.specs.Calls.{Calls}
use Rattle.ft_laws.specs.Effects.{Access as PlaceAccess, Effect, Effects, calls_of}
use Rattle.ft_laws.specs.Settled.{settled}
use Rattle.ft_cells.specs.declared.cell.Cell.{Cell}
use Rattle.ft_cells.specs.declared.cell.Cell.TheVariants.{Entry, Names, Parent, Links, Bytes, Fd, DirAttributes, FileAttributes}
use Rattle.ft_cells.specs.declared.node.Node.{Node}
use Rattle.ft_cells.specs.declared.node.Node.TheVariants.{Dir as DirNode, File as FileNode}
use Rattle.ft_cells.specs.declared.open_file.OpenFile.{OpenFile}
use Rattle.ft_cells.specs.CellOrder.{same_cell, overlap}
use Rattle.ft_cells.specs.declared.limits.TreeLimits.{TreeLimits}
use Rattle.ft_cells.specs.Limits.{default_limits}
use Rattle.ft_cells.specs.Cells.{Cells}
use Rattle.ft_tree.specs.Held.{Holds, held, blank, set_cell}
use Rattle.ft_tree.specs.Sound.{AreSoundCells, IsFree, SameValues}
use Rattle.ft_posix.specs.declared.call.Call.{Call}
use Rattle.ft_posix.specs.declared.call.Reply.{Reply}
use Rattle.ft_posix.specs.declared.call.Access.{Access}
use Rattle.ft_posix.specs.Stored.{outcome}
use Rattle.ft_posix.specs.Accesses.{is_write, accesses_of}

-- an access to the names of a directory covers each of its entries, and any other access its cell
-- (a rule of this project)
abbrev pub covers : Cell → Cell → Bool
covers (Names d) (Entry entry) = d == entry.dir
covers x y = same_cell x y

-- a call with its stamp
pub record Stamped : Type 0 where
  pub stamp : ℕ
  pub call : Call

-- an access, in the terms of ft_laws
abbrev pub as_place : Access → PlaceAccess Cell
as_place a = record { place = a.cell; writes = is_write a.mode }

-- the values are those of some sound cells, whatever the places: what ft_laws requires of a store
-- concerns only values
pub record HasSoundValues (cells : Cells) : Type 0 where
  pub with_places : Cells
  pub sound : AreSoundCells with_places
  pub same : SameValues with_places cells

-- the file to which a cell belongs: its links, its bytes and its attributes belong to it
abbrev pub file_of : Cell → Option ℕ
file_of (Entry entry) = None
file_of (Names d) = None
file_of (Parent d) = None
file_of (Links i) = Some i
file_of (Bytes i) = Some i
file_of (Fd f) = None
file_of (DirAttributes d) = None
file_of (FileAttributes i) = Some i

-- whether a node is this file
abbrev pub node_names : Option Node → ℕ → Bool
node_names None i = false
node_names (Some (DirNode j)) i = false
node_names (Some (FileNode form j)) i = j == i

-- whether a description has this file open
abbrev pub description_names : Option OpenFile → ℕ → Bool
description_names None i = false
description_names (Some o) i = o.file == i

-- an entry names its file, and a description the file that it has open (POSIX.1-2017, Base
-- Definitions, 3, Directory Entry, Open File Description)
abbrev pub names_file : (c : Cell) → Holds c → ℕ → Bool
names_file (Entry entry) to i = node_names to i
names_file (Names d) to i = false
names_file (Parent d) to i = false
names_file (Links j) to i = false
names_file (Bytes j) to i = false
names_file (Fd f) to i = description_names to i
names_file (DirAttributes d) to i = false
names_file (FileAttributes j) to i = false

-- the effect of a call, in the terms of ft_laws: its accesses, its writes and its reply
abbrev pub does : Cells → Stamped → Effect Cell Cell Holds Reply
does cells a = let o = outcome cells a.stamp a.call in record {
  accesses = map as_place (accesses_of cells a.stamp a.call);
  writes = o.writes;
  reply = o.reply;
}

-- the twenty-eight calls: cells, accesses, effects, soundness, freshness, files. The stamp of a
-- call numbers the file that it makes.
abbrev pub posix : Effects
posix = record {
  Store = Cells;
  Cell = Cell;
  Value = Holds;
  Place = Cell;
  Call = Stamped;
  Reply = Reply;
  File = ℕ;
  cell = held;
  write = set_cell;
  same_cell = same_cell;
  covers = covers;
  overlap = overlap;
  stamp = λ a. a.stamp;
  does = does;
  IsSound = HasSoundValues;
  IsReady = λ a cells. IsFree cells a.stamp;
  file_of = file_of;
  names = names_file;
  blank = blank;
  own = λ a. a.stamp;
}

-- the limits of a tree, which no call changes
abbrev pub limits_of : Cells → TreeLimits
limits_of cells = cells.limits

-- the calls of these effects; each depends on the limits of its tree, as on a cell
abbrev pub posix_calls : Calls
posix_calls = settled (calls_of posix) TreeLimits limits_of default_limits
