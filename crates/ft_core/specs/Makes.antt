-- A call that is made on the parts of a core.
use Rattle.std.specs.Prelude.{◌≡◌, ℕ, List, map}
use Rattle.ft_owned_lists.specs.OwnedLists.{list_in}
use Rattle.ft_laws.specs.Effects.{before}
use Rattle.ft_cells.specs.Cells.{Cells}
use Rattle.ft_posix.specs.declared.call.Access.{Access}
use Rattle.ft_posix.specs.Outcomes.{Write}
use Rattle.ft_posix.specs.Accesses.{written_cell}
use Rattle.ft_posix.specs.Stored.{put_all}
use Rattle.ft_posix.specs.Posix.{posix}
use Rattle.ft_undo.specs.declared.undo.BeforeImage.{BeforeImage}
use Rattle.ft_undo.specs.Logs.{is_open, AreLists, AreOpen}
use Rattle.ft_undo.specs.Undone.{given_back, CanGiveAllBack, AreAsLeft}
use Rattle.ft_lock_rules.specs.Locks.{AreGranted}
use Rattle.ft_history.specs.Logs.{pushed}
use Rattle.ft_core.specs.declared.parts.Parts.{Parts}

-- The writes are made on the cells, the locks are t's, and what takes the writes
-- back is the newest of t's list.
pub record IsMadeOn (old new : Parts) (writes : List Write) (t k : ℕ) (accesses : List Access) : Type 0 where
  pub forest : new.forest ≡ old.forest
  pub cells : new.tree ≡ put_all old.tree writes
  pub undo : List BeforeImage
  pub left : AreAsLeft new.tree new.tree (map written_cell writes)
  pub inverse : map given_back undo ≡ before posix old.tree writes
  pub may : (cells : Cells) → AreAsLeft cells new.tree (map written_cell writes) → CanGiveAllBack cells undo
  pub granted : AreGranted old.locks new.locks t accesses
  pub listed : AreLists new.logs (pushed (list_in old.logs) t (record { stamp = k; undo = undo }))
  pub open_still : AreOpen new.logs (is_open old.logs)

-- Memory was wanting: nothing has changed.
pub record IsUnmade (old new : Parts) : Type 0 where
  pub forest : new.forest ≡ old.forest
  pub cells : new.tree ≡ old.tree
  pub locks : new.locks ≡ old.locks
  pub listed : AreLists new.logs (list_in old.logs)
  pub open_still : AreOpen new.logs (is_open old.logs)
