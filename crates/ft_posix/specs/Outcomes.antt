-- The outcome of a call: a reply, and the cells that it writes with their new values.
-- XBD and XSH are the Base Definitions and the System Interfaces of POSIX.1-2017.
use Rattle.std.specs.Prelude.{Bool, List, [], Option, None, Some, Result, Ok, Err}
use Rattle.ft_path.specs.declared.path.Parts.{Parts}
use Rattle.ft_path.specs.declared.errno.Errno.{Errno}
use Rattle.ft_laws.specs.Effects.{Write as CellWrite}
use Rattle.ft_cells.specs.declared.cell.Cell.{Cell}
use Rattle.ft_tree.specs.Held.{Holds}
use Rattle.ft_cells.specs.Looks.{Looks, Answer, then, or_else}
use Rattle.ft_cells.specs.declared.node.PathEnd.{PathEnd}
use Rattle.ft_tree.specs.Walk.{walk}
use Rattle.ft_posix.specs.declared.call.Reply.{Reply}
use Rattle.ft_posix.specs.declared.call.Reply.TheVariants.{Failed}

-- one cell with its new value: an entry, a parent, the links, the bytes or the attributes of a
-- file, the attributes of a directory, the description of a descriptor. The names of a directory
-- are never written.
abbrev pub Write : Type 0
Write = CellWrite Cell Holds

-- this cell, with this value
abbrev pub sets : (c : Cell) → Holds c → Write
sets c to = record { cell = c; value = to }

-- a reply, and the writes in order
pub record Outcome : Type 0 where
  pub reply : Reply
  pub writes : List Write

-- a call that fails writes nothing (XSH, Return Value of each call)
abbrev pub failed : Errno → Outcome
failed e = record { reply = Failed e; writes = [] }

-- a call that only reports something writes nothing
abbrev pub told : Reply → Outcome
told reply = record { reply = reply; writes = [] }

-- a call on a path continues at the end of the path (XBD 4.13). If the call follows links, the walk
-- goes through a last component that is a symbolic link. The fault of the text is returned before
-- anything is looked at, and a fault of the walk where it occurs; the order is a rule of this
-- project.
abbrev pub from_parts : Bool → Result Parts Errno → (PathEnd → Looks Outcome) → Looks Outcome
from_parts follow (Err e) go = Answer (failed e)
from_parts follow (Ok parts) go = then (walk follow parts.names parts.trailing) (or_else failed go)

-- the call continues if there is no fault
abbrev pub unless : Option Errno → Looks Outcome → Looks Outcome
unless None go = go
unless (Some e) go = Answer (failed e)

-- a call on a path with arguments that may be at fault continues at the end of the path: the fault
-- of the text is returned first, then that of the arguments, both before anything is looked at
abbrev pub from_judged : Option Errno → Bool → Result Parts Errno → (PathEnd → Looks Outcome) → Looks Outcome
from_judged fault follow (Err e) go = Answer (failed e)
from_judged fault follow (Ok parts) go = unless fault (from_parts follow (Ok parts) go)
