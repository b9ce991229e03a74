-- The order of modes and of kinds of locks.
use Rattle.std.specs.Prelude.{ℕ}
use Rattle.ft_posix.specs.declared.call.Mode.{Mode}
use Rattle.ft_posix.specs.declared.call.Mode.TheVariants.{Read as ReadMode, Write as WriteMode}
use Rattle.ft_lock_rules.specs.declared.line.LockKind.{LockKind}
use Rattle.ft_lock_rules.specs.declared.line.LockKind.TheVariants.{Held, Retained}

-- Read before Write
abbrev pub mode_rank : Mode → ℕ
mode_rank ReadMode = 0
mode_rank WriteMode = 1

-- Held before Retained
abbrev pub kind_rank : LockKind → ℕ
kind_rank Held = 0
kind_rank Retained = 1
