use Rattle.std.proofs.Common.{◌≡◌, ◌++◌}
use Rattle.std.specs.FinMap as finite
use Rattle.std.specs.Vec.Iter.{into_iter_items}
use Rattle.ft_base.specs.Pairs.{shown}
use Rattle.ft_cells.specs.Rows.{open_rows}
use Rattle.ft_tree.specs.Tidy.{opens_from}
use Rattle.ft_tree.proofs.rows.push_opens.Given as goal

-- the rows so far and those of the places left are all
abbrev pub invariant-loop-fd : goal.invariant-loop-fd
invariant-loop-fd l =
    (goal.iterator-loop-fd).can_next l.fd-iterator × (goal.iterator-loop-fd).is_finite l.fd-iterator
    × (l.rows.items ++ open_rows (opens_from (shown (into_iter_items l.fd-iterator))) ≡ l.initial.rows.items ++ open_rows (opens_from (finite.entries l.opens)))
