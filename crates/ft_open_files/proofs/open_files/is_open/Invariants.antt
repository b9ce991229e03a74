use Rattle.std.proofs.Common.{◌≡◌}
use Rattle.std.specs.List.{list_any}
use Rattle.ft_cells.specs.Cells.{is_open, is_of_file}
use Rattle.ft_open_files.proofs.open_files.is_open.Given as goal

-- none of the places so far is one of the file
abbrev pub invariant-loop-place : goal.invariant-loop-place
invariant-loop-place l = list_any (is_of_file l.file) l.place-iterator ≡ is_open l.places l.file
