use Rattle.std.proofs.Common.{sym, subst, arith, refl, []}
use Rattle.ft_index.specs.Probing.{IsIndex}
use Rattle.ft_index.proofs.Indexes.{blank_index}
use Rattle.ft_index.proofs.index.Index.new.Goals as goal

pub invariant_of-result : goal.invariant_of-result
invariant_of-result c = subst (IsIndex 0 0) (sym c.new.ensures.items) (blank_index 0 [] (λ i. refl) (omega arith) (omega arith))
