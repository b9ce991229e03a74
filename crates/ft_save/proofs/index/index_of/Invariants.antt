use Rattle.std.proofs.Common.{◌≡◌, ◌++◌, List, length}
use Rattle.ft_save.specs.declared.row.Row.{Row}
use Rattle.ft_save.specs.Trees.{Indexes}
use Rattle.ft_save.proofs.index.index_of.Given as goal

-- the rows from behind were added so far
abbrev pub invariant-loop-row : goal.invariant-loop-row
invariant-loop-row l = (added : List Row) × (l.initial.rows.items ≡ l.rows.items ++ added) × Indexes l.index added

abbrev pub decreases-loop-row : goal.decreases-loop-row
decreases-loop-row l = length l.rows.items
