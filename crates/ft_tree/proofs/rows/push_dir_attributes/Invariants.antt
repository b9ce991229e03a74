use Rattle.std.proofs.Common.{◌≡◌, ◌++◌}
use Rattle.std.specs.FinMap as finite
use Rattle.ft_cells.specs.Rows.{dir_attributes_rows}
use Rattle.ft_tree.specs.Tidy.{dirs_from}
use Rattle.ft_tree.proofs.rows.push_dir_attributes.Given as goal

-- the rows so far and those of the directories left are all
abbrev pub invariant-loop-number : goal.invariant-loop-number
invariant-loop-number l = l.rows.items ++ dir_attributes_rows (dirs_from l.number-iterator) ≡ l.initial.rows.items ++ dir_attributes_rows (dirs_from (finite.entries l.inodes.directories))
