use Rattle.std.proofs.Common.{ℕ, ◌≤◌}
use Rattle.ft_tree.specs.Sound.{AreSoundCells, IsFree}
use Rattle.test_parts.proofs.of_undo.make_calls_on.Given as goal

-- the tree is sound, and the stamp and all numbers above it are free
abbrev pub invariant-loop-place : goal.invariant-loop-place
invariant-loop-place l = AreSoundCells l.tree × ((k : ℕ) → l.stamp ≤ k → IsFree l.tree k)
