use Rattle.std.proofs.Common.{sym}
use Rattle.ft_locks.proofs.EntryKeys.{told-set, told-none}
use Rattle.ft_locks.proofs.cells.set_place.Goals as goal

pub returns-in-Some : goal.returns-in-Some
returns-in-Some c = told-set c.args.slab.now c.args.key c.args.place c.in-Some.locked.now (sym c.in-Some.ensures.value)

pub returns-in_default : goal.returns-in_default
returns-in_default c = told-none c.args.slab.now c.args.key c.args.place (sym c.in_default.ensures.value)
