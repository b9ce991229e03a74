use Rattle.ft_locks.proofs.Nameless.{no_names}
use Rattle.ft_locks.specs.Slots.{at_of, keys_in}
use Rattle.ft_locks.proofs.cells.LockedCells.may_have_names.Goals as goal

pub returns : goal.returns
returns c = λ has_none. no_names c.self.inside.locked (keys_in (at_of c.self.inside.locked)) c.args.self.now c.self.view_is c.self.invariant.keyed (c.self.invariant.nameless has_none)
