use Rattle.ft_locks.proofs.EntryKeys.{entries-listed}
use Rattle.ft_locks.specs.Slots.{at_of, keys_in}
use Rattle.ft_locks.proofs.cells.LockedCells.entries_of.Goals as goal

pub returns : goal.returns
returns c =
    entries-listed c.self.inside.locked (keys_in (at_of c.self.inside.locked)) c.args.self.now c.self.view_is c.self.invariant.keyed c.self.inside.entries.keys c.self.invariant.placed c.args.dir _ c.of.ensures
