use Rattle.std.proofs.Common.{rules, ◌≤◌, ℕ, sym, subst}
use Rattle.ft_cells.specs.Cells.{Cells}
use Rattle.ft_tree.specs.Sound.{AreSoundCells, IsFree}
use Rattle.tool_bench.proofs.growth.Growth.perform.Goals as goal

-- a call that is refused changes nothing
pub invariant_of-self : goal.invariant_of-self
invariant_of-self c =
    let IsKept : Cells → Type 0 = λ cells. AreSoundCells cells × ((k : ℕ) → c.self.inside.next ≤ k → IsFree cells k) in
    subst IsKept (sym c.in_err-reply.ensures.refused) c.self.invariant

-- one that is made leaves the tree sound, and the numbers above its stamp free
pub invariant_of-self-2 : goal.invariant_of-self-2
invariant_of-self-2 c = (c.in_ok-reply.ensures.stays_sound, λ k above. c.in_ok-reply.ensures.stays_free k (c.self.invariant.1 k (search rules)) (search rules))
