use Rattle.std.proofs.Common.{◌≡◌, ◌++◌, take}
use Rattle.std.specs.List.{filter_map}
use Rattle.ft_cells.specs.Cells.{filled}
use Rattle.ft_cells.specs.Rows.{named_rows}
use Rattle.ft_inodes.specs.Named.{shown}
use Rattle.ft_inodes.proofs.directory.push_places.Given as goal

-- the rows of the places so far
abbrev pub invariant-loop-place : goal.invariant-loop-place
invariant-loop-place l = l.rows.items ≡ l.initial.rows.items ++ named_rows l.dir (filter_map filled (shown (take l.place-index l.places)))
