-- The lock table, the logs and the journal are ready for a transaction that is to begin.
use Rattle.std.specs.Prelude.{◌≡◌, ◌≢◌, ℕ, true, Option, None, Some}
use Rattle.std.specs.FinMap as finite
use Rattle.ft_owned_lists.specs.OwnedLists.{Lists, list_in}
use Rattle.ft_undo.specs.declared.logs.LogRecord.{LogRecord}
use Rattle.ft_undo.specs.Logs.{is_open, AreLists}
use Rattle.ft_forest.specs.declared.fault.ForestFault.{ForestFault}
use Rattle.ft_forest.specs.Transactions.{Transactions}
use Rattle.ft_forest.specs.Refusals.{begin_refusal, sub_refusal}
use Rattle.ft_lock_rules.specs.Locks.{LockTable, is_opened}
use Rattle.ft_core.specs.Journals.{Journaled}

-- Each transaction has its locks, its list and what is noted of it, and at most
-- the next one is open besides.
pub record AreAsBefore (j j' : Journaled) (table table' : LockTable) (lists lists' : Lists LogRecord) (next : ℕ) : Type 0 where
  pub journal : j' ≡ record j { subs = j'.subs }
  pub subs : (t : ℕ) → t ≢ next → finite.get j'.subs t ≡ finite.get j.subs t
  pub locks : table' ≡ record table { opened = table'.opened }
  pub opened : (t : ℕ) → is_opened table t ≡ true → is_opened table' t ≡ true
  pub listed : AreLists lists' (list_in lists)
  pub open_still : (t : ℕ) → is_open lists t ≡ true → is_open lists' t ≡ true

-- The next one is open.
pub record IsOpenFor (j : Journaled) (table : LockTable) (lists : Lists LogRecord) (next : ℕ) : Type 0 where
  pub sub : finite.get j.subs next ≡ Some None
  pub locks : is_opened table next ≡ true
  pub log : is_open lists next ≡ true

-- why the forest refuses a transaction more, at the top or below this one
abbrev pub add_refusal : Transactions → Option ℕ → Option ForestFault
add_refusal forest None = begin_refusal forest
add_refusal forest (Some t) = sub_refusal forest t
