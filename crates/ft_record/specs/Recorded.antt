-- The invariant of a core that keeps the events.
use Rattle.std.specs.Prelude.{◌≡◌, ◌≤◌}
use Rattle.ft_cells.specs.Cells.{Cells}
use Rattle.ft_tree.specs.Tidy.{tidy}
use Rattle.ft_forest.specs.declared.TheConstants.{LAST_NUMBER}
use Rattle.ft_core.specs.Journals.{IsBaseTree}
use Rattle.ft_core.specs.Sweeps.{HasNoUselessPlace}
use Rattle.ft_record.specs.Recent.{Remembered}

-- No event since the base is forgotten, and the tree that is kept is that of the base.
pub record IsRecorded (recent : Remembered) (base : Cells) : Type 0 where
  pub all : recent.forgotten ≡ 0
  pub tree : tidy base ≡ recent.core.state.base.tree
  pub base_is : IsBaseTree base recent.core.state.base.last_stamp
  pub last : recent.core.state.base.last_stamp ≤ LAST_NUMBER
  pub bare : HasNoUselessPlace base
