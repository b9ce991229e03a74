-- A transaction hands this to its parent when it commits, and at the top level to nobody. (Moss,
-- Nested Transactions, MIT 1981, commit of a transaction.)
use Rattle.std.specs.Prelude.{◌≡◌, ◌≢◌, ℕ, true, Option, Some, None}
use Rattle.ft_owned_lists.specs.OwnedLists.{Lists}
use Rattle.ft_undo.specs.declared.logs.LogRecord.{LogRecord}
use Rattle.ft_undo.specs.Logs.{is_open}
use Rattle.ft_lock_rules.specs.Locks.{LockTable, AreInherited, AreReleased, is_opened}

-- the parent inherits the locks, or they are released
abbrev pub AreHandedUp : LockTable → LockTable → ℕ → Option ℕ → Type 0
AreHandedUp old new txn None = AreReleased old new txn
AreHandedUp old new txn (Some parent) = AreInherited old new txn parent

-- the parent, if there is one, is another, and there is room for what it is given
abbrev pub MayHandUp : LockTable → Lists LogRecord → ℕ → Option ℕ → Type 0
MayHandUp table lists txn None = Unit {0}
MayHandUp table lists txn (Some parent) = (txn ≢ parent) × (is_opened table parent ≡ true) × (is_open lists parent ≡ true)
