use Rattle.std.proofs.Common.{◌≡◌, ◌++◌, map, length}
use Rattle.ft_save.specs.Trees.{listed}
use Rattle.ft_save.proofs.reported.names_of.Given as goal

-- the names that were told so far, and those that are left, are all
abbrev pub invariant-loop-edge : goal.invariant-loop-edge
invariant-loop-edge l = map listed l.initial.rest ≡ l.names.items ++ map listed l.rest

abbrev pub decreases-loop-edge : goal.decreases-loop-edge
decreases-loop-edge l = length l.rest
