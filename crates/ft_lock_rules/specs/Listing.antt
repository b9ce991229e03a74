-- What is added to a list of locks.
use Rattle.std.specs.Prelude.{◌≡◌, ◌+◌, ◌==◌, ◌&&◌, ℕ, Bool, cond, List}
use Rattle.std.specs.List.{count_by}
use Rattle.std.specs.Ordering.{eq_by_cmp}
use Rattle.ft_cells.specs.declared.cell.Cell.{Cell}
use Rattle.ft_cells.specs.CellOrder.{same_cell}
use Rattle.ft_posix.specs.declared.call.Mode.{Mode}
use Rattle.ft_lock_rules.specs.declared.line.LockKind.{LockKind}
use Rattle.ft_lock_rules.specs.declared.line.LockLine.{LockLine}
use Rattle.ft_lock_rules.specs.declared.cell_locks.OwnerLocks.{OwnerLocks}
use Rattle.ft_lock_rules.specs.LockModes.{has_mark}
use Rattle.ft_lock_rules.specs.Locks.{line_cmp}

-- the two locks are the same
abbrev pub same_line : LockLine → LockLine → Bool
same_line = eq_by_cmp line_cmp

-- how often the lock is listed
abbrev pub times_listed : List LockLine → LockLine → ℕ
times_listed lines l = count_by (same_line l) lines

-- once if the test holds, else not at all
abbrev pub once : Bool → ℕ
once b = cond b 1 0

-- each lock is listed this many times more
abbrev pub AreAdded : List LockLine → List LockLine → (LockLine → ℕ) → Type 0
AreAdded old new more = (l : LockLine) → times_listed new l ≡ times_listed old l + more l

-- the line's lock is one of this owner's on the cell
abbrev pub is_by : Cell → LockLine → OwnerLocks → Bool
is_by cell l h = same_cell l.cell cell && ((h.owner == l.owner) && has_mark h.marks l.mode l.kind)

-- the line is the lock of this mode and kind of an owner on the cell, which the owner has
abbrev pub is_lock_of : Cell → OwnerLocks → Mode → LockKind → LockLine → Bool
is_lock_of cell h mode kind l = same_line l (record { cell = cell; owner = h.owner; mode = mode; kind = kind }) && has_mark h.marks mode kind
