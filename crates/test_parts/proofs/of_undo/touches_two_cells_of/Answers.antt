use Rattle.std.proofs.Common.{ap, refl}
use Rattle.ft_cells.specs.declared.cell.Cell.TheVariants.{Bytes}
use Rattle.ft_cells.specs.Cells.{Contents}
use Rattle.test_parts.proofs.of_undo.touches_two_cells_of.Goals as goal

-- the number of the call is free, so nothing is stored of it
pub accesses-requires : goal.accesses-requires
accesses-requires c = ap (λ (held : Contents). held.bytes) (c.requires.unused (Bytes 2) refl)
