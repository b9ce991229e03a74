use Rattle.std.proofs.Common.{ap, arith, refl}
use Rattle.ft_cells.specs.declared.cell.Cell.TheVariants.{Bytes}
use Rattle.ft_cells.specs.Cells.{Contents}
use Rattle.tool_bench.proofs.growth.Growth.accesses.Goals as goal

-- the next stamp is free, so nothing is stored of it
pub prepare-requires : goal.prepare-requires
prepare-requires c = record { fresh = ap (λ (held : Contents). held.bytes) ((c.self.invariant.1 c.self.inside.next (omega arith)).unused (Bytes c.self.inside.next) refl) }
