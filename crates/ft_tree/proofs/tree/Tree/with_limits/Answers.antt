use Rattle.std.proofs.Common.{◌≤◌, ℕ, sym, subst, ap, ◌∙◌}
use Rattle.std.specs.Ordering.{nat_cmp}
use Rattle.std.specs.FinMap.{get-empty}
use Rattle.ft_cells.specs.Cells.{Cells}
use Rattle.ft_inodes.specs.Stored.{InodeCells, with_directory}
use Rattle.ft_tree.specs.Sound.{AreSoundCells, IsFree}
use Rattle.ft_tree.proofs.Fresh.{fresh-sound, fresh-free}
use Rattle.std.specs.FinMap as finite
use Rattle.ft_tree.proofs.tree.Tree.with_limits.Goals as goal

-- no number has a directory yet
pub add_directory-requires : goal.add_directory-requires
add_directory-requires c = ap (λ (m : InodeCells). finite.get m.directories 1) c.new-inodes.ensures ∙ get-empty nat_cmp 1

pub returns-clause-sound : goal.returns-clause-sound
returns-clause-sound c =
    let is = c.in_ok-near.ensures.ok ∙ (λ i. with_directory (c.new-inodes.ensures i) 1 (c.new.ensures i)) in
    subst AreSoundCells (sym (λ i. record { limits = c.args.limits; directories = (is i).directories; files = (is i).files; opens = c.new-2.ensures i })) (fresh-sound c.args.limits)

pub returns-clause-free : goal.returns-clause-free
returns-clause-free c =
    let is = c.in_ok-near.ensures.ok ∙ (λ i. with_directory (c.new-inodes.ensures i) 1 (c.new.ensures i)) in
    subst (λ (cells : Cells). (k : ℕ) → 2 ≤ k → IsFree cells k) (sym (λ i. record { limits = c.args.limits; directories = (is i).directories; files = (is i).files; opens = c.new-2.ensures i })) (fresh-free c.args.limits)
