use Rattle.std.proofs.Common.{◌≡◌, ℕ}
use Rattle.std.specs.Vec.Iter.{into_iter_items}
use Rattle.ft_tree.specs.Sound.{AreSoundCells, IsFree}
use Rattle.ft_tree.specs.Tidy.{tidy}
use Rattle.ft_view.proofs.Cleared.{IsLeft}
use Rattle.ft_view.proofs.clearing.clear.Given as goal

-- the tree is what it was, and what is left of no use is to be told yet, or was not met
abbrev pub invariant-loop-access : goal.invariant-loop-access
invariant-loop-access l = record {
  same : tidy l.tree ≡ tidy l.initial.tree;
  left : IsLeft l.fn.accesses.items (into_iter_items l.access-iterator) l.initial.tree l.tree;
  sound : AreSoundCells l.initial.tree → AreSoundCells l.tree;
  free : (k : ℕ) → IsFree l.initial.tree k → IsFree l.tree k;
}
