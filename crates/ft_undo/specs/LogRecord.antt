-- A call that was made, and kept in the log of a transaction. (Moss 1981, state restoration.)
use Rattle.std.specs.Prelude.{◌≡◌, ℕ, List, map}
use Rattle.ft_owned_lists.specs.OwnedLists.{Lists, list_in}
use Rattle.ft_laws.specs.Effects.{before}
use Rattle.ft_cells.specs.Cells.{Cells}
use Rattle.ft_posix.specs.Outcomes.{Write}
use Rattle.ft_posix.specs.Accesses.{written_cell}
use Rattle.ft_posix.specs.Stored.{put_all}
use Rattle.ft_posix.specs.Posix.{posix}
use Rattle.ft_history.specs.Logs.{pushed}
use Rattle.ft_undo.specs.declared.undo.BeforeImage.{BeforeImage}
use Rattle.ft_undo.specs.declared.logs.LogRecord.{LogRecord}
use Rattle.ft_undo.specs.Logs.{AreLists}
use Rattle.ft_undo.specs.Undone.{given_back, AreAsLeft, MayRevert, restored, CanRestoreAll}

-- The writes are made on the cells, and their undo is the newest of the transaction's list. The
-- undo is the inverse. It may be given back if the written cells are as they were left. Right after
-- the call, it restores the cells as if the call had never been made.
pub record IsLogged (old new : Cells) (writes : List Write) (lists lists' : Lists LogRecord) (txn stamp : ℕ) : Type 0 where
  pub cells : new ≡ put_all old writes
  pub left : AreAsLeft new new (map written_cell writes)
  pub undo : List BeforeImage
  pub inverse : map given_back undo ≡ before posix old writes
  pub may_revert : MayRevert new writes undo
  pub can_take_back : CanRestoreAll new undo
  pub taken_back : restored new undo ≡ old
  pub listed : AreLists lists' (pushed (list_in lists) txn (record { stamp = stamp; undo = undo }))
