use Rattle.std.proofs.Common.{◌≡◌, ◌++◌, length, map}
use Rattle.std.specs.Prelude.{reverse}
use Rattle.ft_copy.specs.Walks.{child}
use Rattle.ft_into.proofs.gone.add_names.Given as goal

-- the places so far, with those of the names that are left, are all
abbrev pub invariant-loop-listed : goal.invariant-loop-listed
invariant-loop-listed l =
    l.initial.left.items ++ map (child l.path) (reverse l.initial.names.items) ≡ l.left.items ++ map (child l.path) (reverse l.names.items)

abbrev pub decreases-loop-listed : goal.decreases-loop-listed
decreases-loop-listed l = length l.names.items
