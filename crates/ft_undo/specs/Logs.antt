-- The undo logs (Moss 1981, state restoration): for each open transaction its list, the newest
-- first. ft_history defines how the lists change: put, pushed, popped, handed. They are in the
-- order of the log and not of the stamps: what a commit moves from a child is newer in it than all
-- that its parent had.
use Rattle.std.specs.Prelude.{◌≡◌, ℕ, Bool, List, [], ◌∷◌, Option, Some, None}
use Rattle.std.specs.FinMap as finite
use Rattle.ft_owned_lists.specs.OwnedLists.{Lists, list_in}
use Rattle.ft_undo.specs.declared.logs.LogRecord.{LogRecord}

-- a transaction may be given undos of its calls, from its begin to its end
abbrev pub is_open : Lists LogRecord → ℕ → Bool
is_open m txn = finite.contains_key m txn

-- the list of each transaction is this one; the list of a transaction that is not open is empty
abbrev pub AreLists : Lists LogRecord → (ℕ → List LogRecord) → Type 0
AreLists m lists = (x : ℕ) → list_in m x ≡ lists x

-- exactly these transactions are open
abbrev pub AreOpen : Lists LogRecord → (ℕ → Bool) → Type 0
AreOpen m those = (x : ℕ) → is_open m x ≡ those x

-- the newest of a list, if there is one
abbrev pub newest_of : List LogRecord → Option LogRecord
newest_of [] = None
newest_of (x ∷ xs) = Some x
