use Rattle.std.proofs.Common.{◌≡◌, length}
use Rattle.ft_into.specs.Knows.{with_names}
use Rattle.ft_into.specs.Views.{names_of}
use Rattle.ft_into.proofs.names.Names.insert_all.Given as goal

-- the names so far, with those that are left, are all
abbrev pub invariant-loop-listed : goal.invariant-loop-listed
invariant-loop-listed l = with_names l.path l.initial.names.items (names_of l.initial.self) ≡ with_names l.path l.names.items (names_of l.self)

abbrev pub decreases-loop-listed : goal.decreases-loop-listed
decreases-loop-listed l = length l.names.items
