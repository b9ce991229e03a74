use Rattle.std.proofs.Common.{◌≢◌, ◌<◌, ℕ, Some}
use Rattle.std.specs.Prelude.{slice_get}
use Rattle.ft_inodes.specs.Named.{names_in}
use Rattle.ft_inodes.proofs.places.search.Given as goal

-- no place so far has the name
abbrev pub invariant-loop-at : goal.invariant-loop-at
invariant-loop-at l = (i : ℕ) → i < l.at → slice_get (names_in l.places) i ≢ Some l.name
