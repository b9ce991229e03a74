-- The end of a path, after the text of the path and the arguments of its call are judged.
use Rattle.std.specs.Prelude.{Bool, Option, None, Some, Result, Ok, Err}
use Rattle.ft_path.specs.declared.path.Parts.{Parts}
use Rattle.ft_path.specs.declared.errno.Errno.{Errno}
use Rattle.ft_cells.specs.declared.node.PathEnd.{PathEnd}
use Rattle.ft_cells.specs.Looks.{Looks, Answer}
use Rattle.ft_tree.specs.Walk.{walk}

-- the fault of the text comes first, then that of the arguments, and then the walk (XBD 4.13),
-- through a last symbolic link if the call follows it
abbrev pub judged : Option Errno → Bool → Result Parts Errno → Looks (Result PathEnd Errno)
judged fault follow (Err e) = Answer (Err e)
judged (Some e) follow (Ok parts) = Answer (Err e)
judged None follow (Ok parts) = walk follow parts.names parts.trailing
