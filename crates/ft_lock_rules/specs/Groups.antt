-- The owners that have locks on one cell, by how many there are.
use Rattle.std.specs.FinMap as finite
use Rattle.ft_lock_rules.specs.CellLocks.{Owners, alone}
use Rattle.ft_lock_rules.specs.declared.cell_locks.Group.{Group}
use Rattle.ft_lock_rules.specs.declared.cell_locks.Group.TheVariants.{Nobody, One, Several}

-- the owners with their locks
abbrev pub owners_in : Group → Owners
owners_in Nobody = finite.empty
owners_in (One h) = alone h
owners_in (Several crowd) = crowd.value
