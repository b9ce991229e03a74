-- The base of a core may be shown to readers.
use Rattle.std.proofs.Common.{◌≤◌, ℕ, arith}
use Rattle.ft_cells.specs.Cells.{Cells}
use Rattle.ft_forest.specs.declared.TheConstants.{LAST_NUMBER}
use Rattle.ft_core.specs.Journals.{IsBaseTree}
use Rattle.ft_core.specs.Sweeps.{HasNoUselessPlace}
use Rattle.ft_view.specs.Replay.{IsReadable}

pub readable : (cells : Cells) (stamp : ℕ) → IsBaseTree cells stamp → stamp ≤ LAST_NUMBER → HasNoUselessPlace cells → IsReadable cells
readable cells stamp base last bare = record {
  sound = base.sound;
  free = λ k above. base.free k (omega (arith, last, above));
  bare = bare;
}
