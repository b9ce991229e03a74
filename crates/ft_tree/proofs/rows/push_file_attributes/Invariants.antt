use Rattle.std.proofs.Common.{◌≡◌, ◌++◌}
use Rattle.std.specs.FinMap as finite
use Rattle.ft_cells.specs.Rows.{file_attributes_rows}
use Rattle.ft_tree.specs.Tidy.{files_from}
use Rattle.ft_tree.proofs.rows.push_file_attributes.Given as goal

-- the rows so far and those of the files left are all
abbrev pub invariant-loop-number : goal.invariant-loop-number
invariant-loop-number l = l.rows.items ++ file_attributes_rows (files_from l.opens l.number-iterator) ≡ l.initial.rows.items ++ file_attributes_rows (files_from l.opens (finite.entries l.inodes.files))
