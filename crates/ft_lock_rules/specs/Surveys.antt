-- When a transaction's own lock on a cell shows that no other transaction blocks it there.
use Rattle.std.specs.Prelude.{◌≡◌, ℕ, Bool, true, List}
use Rattle.ft_posix.specs.declared.call.Access.{Access}
use Rattle.ft_posix.specs.Accesses.{conflict}
use Rattle.ft_forest.specs.Transactions.{Transactions, over_in}
use Rattle.ft_lock_rules.specs.declared.line.LockLine.{LockLine}
use Rattle.ft_lock_rules.specs.Locks.{LockTable, has_lock, line_access, is_held, is_given}
use Rattle.ft_lock_rules.specs.Cells.{Cells}
use Rattle.ft_lock_rules.specs.Seen.{has_line}

-- each lock that conflicts with one of the transaction's is its own or an ancestor's, among the
-- locks that pass a test
abbrev pub KeepOthersOut : (LockLine → Bool) → Transactions → ℕ → Type 0
KeepOthersOut has forest txn = (own other : LockLine) → has own ≡ true → own.owner ≡ txn → has other ≡ true → conflict (line_access other) (line_access own) ≡ true → over_in forest other.owner txn ≡ true

-- The transaction shares what it has locked only with its ancestors (Moss: all who retain a
-- conflicting lock must be superiors).
abbrev pub HasItsCellsAlone : LockTable → Transactions → ℕ → Type 0
HasItsCellsAlone t forest txn = KeepOthersOut (has_lock t) forest txn

-- among the locks that pass a test, no strict ancestor of an owner holds one that conflicts with
-- one of the owner's
abbrev pub KeepHoldersOut : (LockLine → Bool) → Transactions → Type 0
KeepHoldersOut has forest = (own other : LockLine) → has own ≡ true → has other ≡ true → is_held other.kind ≡ true → conflict (line_access other) (line_access own) ≡ true → over_in forest other.owner own.owner ≡ true → other.owner ≡ own.owner

-- No strict ancestor of an owner holds a lock that conflicts with one of the owner's. (Moss,
-- Nested Transactions, MIT 1981, the locking rules: no other transaction may hold a conflicting
-- lock, and all who retain one must be superiors.)
abbrev pub HasNoHolderAbove : LockTable → Transactions → Type 0
HasNoHolderAbove t forest = KeepHoldersOut (has_lock t) forest

-- an owner holds the lock of each access
abbrev pub HoldsAll : Cells → ℕ → List Access → Type 0
HoldsAll m owner accesses = (l : LockLine) → is_given owner accesses l ≡ true → has_line m l ≡ true
