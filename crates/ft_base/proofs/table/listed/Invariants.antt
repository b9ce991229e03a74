use Rattle.std.proofs.Common.{◌≡◌, ◌++◌}
use Rattle.ft_base.specs.Pairs.{shown}
use Rattle.ft_base.proofs.table.listed.Given as goal

-- the pairs so far and the entries left are all
abbrev pub invariant-loop-number : goal.invariant-loop-number
invariant-loop-number g l = shown l.pairs.items ++ l.number-iterator ≡ l.entries.entries
