use Rattle.std.proofs.Common.{◌≡◌, take}
use Rattle.std.specs.List.{filter_map}
use Rattle.ft_cells.specs.Nodes.{with_kinds}
use Rattle.ft_cells.specs.Cells.{filled}
use Rattle.ft_inodes.specs.Named.{shown}
use Rattle.ft_inodes.proofs.directory.full_places.Given as goal

-- the names of the places so far
abbrev pub invariant-loop-place : goal.invariant-loop-place
invariant-loop-place l = l.names.items ≡ with_kinds (filter_map filled (shown (take l.place-index l.places)))
