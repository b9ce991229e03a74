-- The locks of one owner on one cell: four locks are possible. (Moss 1981, holding and retaining.)
use Rattle.std.specs.Prelude.{Bool, true, false, ◌||◌, Option, Some, None}
use Rattle.ft_posix.specs.declared.call.Mode.{Mode}
use Rattle.ft_posix.specs.declared.call.Mode.TheVariants.{Read as ReadMode, Write as WriteMode}
use Rattle.ft_lock_rules.specs.declared.line.LockKind.{LockKind}
use Rattle.ft_lock_rules.specs.declared.line.LockKind.TheVariants.{Held, Retained}
use Rattle.ft_lock_rules.specs.declared.lock_modes.LockModes.{LockModes}

-- no lock
abbrev pub no_marks : LockModes
no_marks = record { read_held = false; read_retained = false; write_held = false; write_retained = false }

-- the lock of an access that the owner asks for
abbrev pub held_in : Mode → LockModes
held_in ReadMode = record no_marks { read_held = true }
held_in WriteMode = record no_marks { write_held = true }

-- the locks among these that are held
abbrev pub held_of : LockModes → LockModes
held_of m = record no_marks { read_held = m.read_held; write_held = m.write_held }

-- these locks and the others together
abbrev pub with_marks : LockModes → LockModes → LockModes
with_marks m n = record {
  read_held = m.read_held || n.read_held;
  read_retained = m.read_retained || n.read_retained;
  write_held = m.write_held || n.write_held;
  write_retained = m.write_retained || n.write_retained;
}

-- what a parent gets: it retains in the same mode what the child held or retained (Moss
-- 1981, commit of a transaction)
abbrev pub as_retained : LockModes → LockModes
as_retained m = record no_marks { read_retained = m.read_held || m.read_retained; write_retained = m.write_held || m.write_retained }

-- the lock of this mode and kind is there
abbrev pub has_mark : LockModes → Mode → LockKind → Bool
has_mark m ReadMode Held = m.read_held
has_mark m ReadMode Retained = m.read_retained
has_mark m WriteMode Held = m.write_held
has_mark m WriteMode Retained = m.write_retained

-- one of the four is there
abbrev pub is_marked : LockModes → Bool
is_marked m = m.read_held || m.read_retained || m.write_held || m.write_retained

-- one of the four is there, for an owner that may have no place on the cell
abbrev pub is_marked_of : Option LockModes → Bool
is_marked_of None = false
is_marked_of (Some marks) = is_marked marks

-- one of them conflicts with an access in this mode to an overlapping cell
abbrev pub conflicts_with : LockModes → Mode → Bool
conflicts_with m ReadMode = m.write_held || m.write_retained
conflicts_with m WriteMode = is_marked m

-- one of them is for an access in this mode, or for more (Moss: to write is to read too)
abbrev pub suffice_for : LockModes → Mode → Bool
suffice_for m ReadMode = is_marked m
suffice_for m WriteMode = m.write_held || m.write_retained
