-- What was in the place of an entry, as it is kept.
use Rattle.std.specs.Prelude.{Option, None, Some}
use Rattle.ft_cells.specs.declared.node.Form.TheVariants as form
use Rattle.ft_cells.specs.declared.node.Node.{Node}
use Rattle.ft_cells.specs.declared.node.Node.TheVariants as node
use Rattle.ft_undo.specs.declared.entry_was.Was.{Was}
use Rattle.ft_undo.specs.declared.entry_was.Was.TheVariants.{NoPlace, NoEntry, Dir, File, Link}

-- nothing if there was no place
abbrev pub place_of : Was → Option (Option Node)
place_of NoPlace = None
place_of NoEntry = Some None
place_of (Dir n) = Some (Some (node.Dir n))
place_of (File n) = Some (Some (node.File form.Regular n))
place_of (Link n) = Some (Some (node.File form.Link n))
