use Rattle.std.proofs.Common.{None, Some, ap, sym, ◌∙◌}
use Rattle.std.specs.Option.{option_copied}
use Rattle.ft_locks.proofs.Slots.{seen-under}
use Rattle.ft_locks.specs.Slots.{at_of, keys_in}
use Rattle.ft_locks.proofs.cells.LockedCells.under.Goals as goal

pub returns-in_err-locked : goal.returns-in_err-locked
returns-in_err-locked c =
    ap option_copied c.from_residual.ensures
    ∙ seen-under c.self.inside.locked (keys_in (at_of c.self.inside.locked)) c.args.self.now c.self.view_is c.self.invariant.keyed c.args.key None (sym c.get.ensures ∙ ap option_copied c.in_err-locked.was)

pub returns : goal.returns
returns c = seen-under c.self.inside.locked (keys_in (at_of c.self.inside.locked)) c.args.self.now c.self.view_is c.self.invariant.keyed c.args.key (Some c.in_ok-locked.locked.now) (sym c.get.ensures ∙ ap option_copied c.in_ok-locked.was)
