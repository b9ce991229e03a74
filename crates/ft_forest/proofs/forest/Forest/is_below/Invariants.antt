use Rattle.std.proofs.Common.{◌≡◌}
use Rattle.ft_forest.specs.Transactions.{over_in}
use Rattle.ft_forest.proofs.forest.Forest.is_below.Given as goal

-- what is above the transaction on the way up, is above the first
abbrev pub invariant-loop-parent : goal.invariant-loop-parent
invariant-loop-parent l = over_in l.self l.upper l.fn.txn ≡ over_in l.self l.upper l.at

abbrev pub decreases-loop-parent : goal.decreases-loop-parent
decreases-loop-parent l = l.at
