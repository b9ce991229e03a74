use Rattle.std.proofs.Common.{List}
use Rattle.smallvec.specs.SmallVec.{small_vec_len}
use Rattle.ft_body.specs.declared.blocks.Placed.{Placed}
use Rattle.ft_body.specs.Blocks.{Undoes}
use Rattle.ft_body.proofs.blocks.put_back.Given as goal

abbrev pub invariant-loop-lost : goal.invariant-loop-lost
invariant-loop-lost l = ((before : List Placed) × Undoes l.steps.items l.blocks.items before) ×
    ((before : List Placed) → Undoes l.initial.steps.items l.initial.blocks.items before → Undoes l.steps.items l.blocks.items before)

abbrev pub decreases-loop-lost : goal.decreases-loop-lost
decreases-loop-lost l = small_vec_len l.steps
