use Rattle.std.proofs.Common.{◌≡◌, ◌++◌, drop}
use Rattle.ft_path.proofs.names.Names.push_copies.Given as goal

-- the names so far, and those that are left, are all of them
abbrev pub invariant-loop-name : goal.invariant-loop-name
invariant-loop-name l = l.self ++ drop l.name-index l.names ≡ l.initial.self ++ l.names
