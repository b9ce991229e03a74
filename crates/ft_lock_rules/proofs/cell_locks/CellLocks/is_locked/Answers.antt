use Rattle.std.proofs.Common.{sym, ap, ◌∙◌}
use Rattle.ft_lock_rules.specs.LockModes.{is_marked_of}
use Rattle.ft_lock_rules.specs.Groups.{owners_in}
use Rattle.ft_lock_rules.proofs.Lone.{nobody, lone_locked, lone_unlocked}
use Rattle.ft_lock_rules.proofs.cell_locks.CellLocks.is_locked.Goals as goal

pub returns-in-Nobody-clause-none : goal.returns-in-Nobody-clause-none
returns-in-Nobody-clause-none c = λ e owner. ap is_marked_of (nobody c.args.self.now (sym (ap owners_in c.in-Nobody.is) ∙ c.self.view_is) owner)

pub returns-in-One-clause-some : goal.returns-in-One-clause-some
returns-in-One-clause-some c = λ e. lone_locked c.args.self.now c.in-One.one (sym (ap owners_in c.in-One.is) ∙ c.self.view_is) (sym c.is_some.ensures ∙ e)

pub returns-in-One-clause-none : goal.returns-in-One-clause-none
returns-in-One-clause-none c = λ e. lone_unlocked c.args.self.now c.in-One.one (sym (ap owners_in c.in-One.is) ∙ c.self.view_is) (sym c.is_some.ensures ∙ e)
