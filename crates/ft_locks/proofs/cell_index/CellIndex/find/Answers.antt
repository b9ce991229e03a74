use Rattle.ft_locks.specs.Slots.{at_of}
use Rattle.ft_locks.proofs.Hashed.{none_found}
use Rattle.ft_locks.proofs.cell_index.CellIndex.find.Goals as goal

pub returns-clause-none : goal.returns-clause-none
returns-clause-none c =
    none_found c.args.self.now.index c.args.self.now.seed (at_of c.args.locked.now) c.args.cell.now c.candidates.result c.hash_of-hash.result c.first_at.result
    c.requires c.candidates.ensures c.hash_of-hash.ensures c.first_at.ensures.none
