use Rattle.std.proofs.Common.{ℕ, List}
use Rattle.smallvec.specs.SmallVec.{small_vec_len}
use Rattle.ft_body.specs.PutBack.{PutPartsBack}
use Rattle.ft_body.proofs.pages.put_parts_back.Given as goal

abbrev pub invariant-loop-lost : goal.invariant-loop-lost
invariant-loop-lost l = ((before : List (List ℕ)) × PutPartsBack l.first l.parts.items l.pages before) ×
    ((before : List (List ℕ)) → PutPartsBack l.first l.initial.parts.items l.initial.pages before → PutPartsBack l.first l.parts.items l.pages before)

abbrev pub decreases-loop-lost : goal.decreases-loop-lost
decreases-loop-lost l = small_vec_len l.parts
