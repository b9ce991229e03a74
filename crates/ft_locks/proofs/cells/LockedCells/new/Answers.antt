use Rattle.ft_locks.proofs.Hashed.{keyed-empty, hashed-empty, cells-empty}
use Rattle.ft_locks.proofs.EntryKeys.{placed-none}
use Rattle.ft_locks.proofs.Nameless.{nameless-none}
use Rattle.ft_locks.proofs.cells.LockedCells.new.Goals as goal

pub invariant_of-result : goal.invariant_of-result
invariant_of-result c = record {
  keyed = keyed-empty c.new.result c.new.ensures.empty;
  hashed = hashed-empty c.new.result c.new.ensures.empty c.new-2.result.index c.new-2.result.seed c.new-2.ensures;
  placed = placed-none c.new.result c.new-3.result.keys c.new.ensures.empty c.new-3.ensures;
  nameless = λ _. nameless-none c.new.result c.new.ensures.empty;
}

pub returns-clause-cells : goal.returns-clause-cells
returns-clause-cells c = cells-empty c.new.result c.new.ensures.empty
