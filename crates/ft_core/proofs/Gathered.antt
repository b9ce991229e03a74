-- The parts of a core, put together, and its state.
use Rattle.std.proofs.Common.{◌≡◌, ap}
use Rattle.ft_owned_lists.specs.OwnedLists.{Lists}
use Rattle.ft_cells.specs.Cells.{Cells}
use Rattle.ft_undo.specs.declared.logs.LogRecord.{LogRecord}
use Rattle.ft_forest.specs.Transactions.{Transactions}
use Rattle.ft_lock_rules.specs.Locks.{LockTable}
use Rattle.ft_core.specs.declared.parts.Parts.{Parts}
use Rattle.ft_core.specs.States.{StoredState}

abbrev pub parts : Cells → Transactions → LockTable → Lists LogRecord → Parts
parts cells forest table lists = record { tree = cells; forest = forest; locks = table; logs = lists }

-- the state of the same core is the same
pub state-is : {v w : StoredState} → v ≡ w → v.state ≡ w.state
state-is e = ap (λ (v : StoredState). v.state) e
