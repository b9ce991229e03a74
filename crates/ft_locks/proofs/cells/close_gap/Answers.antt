use Rattle.std.proofs.Common.{refl}
use Rattle.ft_locks.proofs.EntryKeys.{gap-closed, gap-gone, told-same}
use Rattle.ft_locks.proofs.cells.close_gap.Goals as goal

pub returns-in-Some-clause-placed : goal.returns-in-Some-clause-placed
returns-in-Some-clause-placed c =
    gap-closed c.args.locked.now c.set_place.new.slab c.args.entries.now.keys c.remove.new.self.keys c.args.dir c.args.place c.in-Some.moved c.requires.gap c.in-Some.ensures.moved c.set_place.ensures

pub returns-in-Some-clause-same : goal.returns-in-Some-clause-same
returns-in-Some-clause-same c = told-same c.args.locked.now c.set_place.new.slab c.in-Some.moved c.args.place c.set_place.ensures

pub returns-in_default-clause-placed : goal.returns-in_default-clause-placed
returns-in_default-clause-placed c = gap-gone c.args.locked.now c.args.locked.now c.args.entries.now.keys c.remove.new.self.keys c.args.dir c.args.place c.requires.gap refl c.in_default.ensures.none
