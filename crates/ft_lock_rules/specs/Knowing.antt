-- Which cells a lock table knows, so that a sweep finds them: those whose locks keep them from a
-- sweep, and the released ones that no sweep has taken since.
use Rattle.std.specs.Prelude.{◌≡◌, ◌≢◌, ◌||◌, ℕ, Bool, true, false, List, Some}
use Rattle.ft_cells.specs.declared.cell.Cell.{Cell}
use Rattle.ft_posix.specs.declared.call.Access.{Access}
use Rattle.ft_posix.specs.Accesses.{is_write}
use Rattle.ft_posix.specs.Posix.{file_of}
use Rattle.ft_lock_rules.specs.declared.line.LockLine.{LockLine}
use Rattle.ft_lock_rules.specs.Locks.{LockTable, has_lock, is_locked, is_released, is_kept, may_be_useless, may_empty_cell, AreGranted, AreInherited, AreReleased}

-- the cell is locked or released
abbrev pub is_known : LockTable → Cell → Bool
is_known t c = is_locked t c || is_released t c

-- A cell whose place may be without use stays such a cell after a grant, after a parent inherits,
-- and after a release. What a granted call may have emptied is such a cell.
pub record KnownLaw : Type 0 where
  pub granted : (old new : LockTable) (txn : ℕ) (accesses : List Access) → AreGranted old new txn accesses → (c : Cell) → (may_be_useless old c || may_empty_cell accesses c) ≡ true → may_be_useless new c ≡ true
  pub inherited : (old new : LockTable) (child parent : ℕ) → child ≢ parent → AreInherited old new child parent → (c : Cell) → may_be_useless old c ≡ true → may_be_useless new c ≡ true
  pub released : (old new : LockTable) (txn : ℕ) → AreReleased old new txn → (c : Cell) → may_be_useless old c ≡ true → may_be_useless new c ≡ true
  -- a locked cell has a lock
  pub locked : (t : LockTable) (c : Cell) → is_locked t c ≡ true → (l : LockLine) × (has_lock t l ≡ true) × (l.cell ≡ c)
  -- a cell that is kept from a sweep is locked
  pub kept : (t : LockTable) (c : Cell) → is_kept t c ≡ true → is_locked t c ≡ true
  -- a lock to write keeps its cell from a sweep
  pub written : (t : LockTable) (l : LockLine) → has_lock t l ≡ true → is_write l.mode ≡ true → is_kept t l.cell ≡ true
  -- any lock keeps a cell of a file from a sweep
  pub file : (t : LockTable) (c : Cell) (file : ℕ) → file_of c ≡ Some file → is_kept t c ≡ false → is_locked t c ≡ false
