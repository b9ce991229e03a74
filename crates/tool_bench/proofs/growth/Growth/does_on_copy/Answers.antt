use Rattle.std.proofs.Common.{arith, sym, subst}
use Rattle.ft_cells.specs.Cells.{Cells}
use Rattle.ft_tree.specs.Sound.{IsFree}
use Rattle.tool_bench.proofs.growth.Growth.does_on_copy.Goals as goal

pub perform-requires-clause-free : goal.perform-requires-clause-free
perform-requires-clause-free c = subst (λ (cells : Cells). IsFree cells c.self.inside.next) (sym c.in_ok-copy.ensures) (c.self.invariant.1 c.self.inside.next (omega arith))
