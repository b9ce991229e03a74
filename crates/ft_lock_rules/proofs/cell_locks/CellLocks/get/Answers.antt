use Rattle.std.proofs.Common.{sym, ap, ◌∙◌}
use Rattle.ft_lock_rules.specs.Groups.{owners_in}
use Rattle.ft_lock_rules.proofs.Lone.{nobody, lone_get}
use Rattle.ft_lock_rules.proofs.cell_locks.CellLocks.get.Goals as goal

pub returns-in-Nobody : goal.returns-in-Nobody
returns-in-Nobody c = sym (nobody c.args.self.now (sym (ap owners_in c.in-Nobody.is) ∙ c.self.view_is) c.args.owner)

pub returns-in-One : goal.returns-in-One
returns-in-One c = c.then_some.ensures ∙ lone_get c.args.self.now c.in-One.one (sym (ap owners_in c.in-One.is) ∙ c.self.view_is) c.args.owner
