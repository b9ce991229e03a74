-- When one look at the locks is enough.
use Rattle.std.specs.Prelude.{ℕ}
use Rattle.ft_forest.specs.Transactions.{Transactions, IsLiveChild}
use Rattle.ft_lock_rules.specs.Locks.{LockTable}
use Rattle.ft_lock_rules.specs.Surveys.{HasItsCellsAlone}

-- If it has no live child, a transaction shares what it has locked only with its ancestors.
abbrev pub IsAloneIfChildless : LockTable → Transactions → ℕ → Type 0
IsAloneIfChildless table forest txn = ((x : ℕ) → IsLiveChild forest txn x → ⊥) → HasItsCellsAlone table forest txn
