use Rattle.std.proofs.Common.{◌≡◌, ◌≤◌, ℕ, take}
use Rattle.ft_inodes.specs.Named.{names_in}
use Rattle.ft_inodes.proofs.Indexed.{Have}
use Rattle.ft_inodes.proofs.name_index.NameIndex.of.Given as goal

-- the names so far are in the index
abbrev pub invariant-loop-key : goal.invariant-loop-key
invariant-loop-key l = Have l.keys l.seed (names_in (take l.key l.places))
