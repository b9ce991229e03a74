use Rattle.std.proofs.Common.{◌≡◌, length}
use Rattle.std.specs.Prelude.{option_map}
use Rattle.ft_save.specs.Reading.{last_tree, later}
use Rattle.ft_save.proofs.reading.last_tree.Given as goal

-- the last report of the lines so far and of those that are left is that of all
abbrev pub invariant-loop-line : goal.invariant-loop-line
invariant-loop-line l = last_tree l.initial.rest ≡ later (option_map (λ list. list.items) l.last) (last_tree l.rest)

abbrev pub decreases-loop-line : goal.decreases-loop-line
decreases-loop-line l = length l.rest
