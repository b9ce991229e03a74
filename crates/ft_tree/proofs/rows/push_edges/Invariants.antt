use Rattle.std.proofs.Common.{◌≡◌, ◌++◌}
use Rattle.std.specs.FinMap as finite
use Rattle.ft_cells.specs.Rows.{edge_rows}
use Rattle.ft_tree.specs.Tidy.{edges_from}
use Rattle.ft_tree.proofs.rows.push_edges.Given as goal

-- the rows so far and those of the directories left are all
abbrev pub invariant-loop-number : goal.invariant-loop-number
invariant-loop-number l = l.rows.items ++ edge_rows (edges_from l.number-iterator) ≡ l.initial.rows.items ++ edge_rows (edges_from (finite.entries l.inodes.directories))
