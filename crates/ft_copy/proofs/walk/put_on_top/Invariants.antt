use Rattle.std.proofs.Common.{◌≡◌, ◌++◌, length}
use Rattle.ft_copy.specs.Walks.{above}
use Rattle.ft_copy.proofs.walk.put_on_top.Given as goal

-- what is on top so far, and then what is left of the names, is all
abbrev pub invariant-loop-listed : goal.invariant-loop-listed
invariant-loop-listed l = record {
  left : l.initial.walk.left.items ++ above l.path l.initial.names.items ≡ l.walk.left.items ++ above l.path l.names.items;
  links : l.walk.links ≡ l.initial.walk.links;
  firsts : l.walk.firsts ≡ l.initial.walk.firsts;
}

abbrev pub decreases-loop-listed : goal.decreases-loop-listed
decreases-loop-listed l = length l.names.items
