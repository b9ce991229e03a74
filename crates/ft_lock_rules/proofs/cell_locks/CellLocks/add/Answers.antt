use Rattle.std.proofs.Common.{sym, ap, ◌∙◌}
use Rattle.ft_lock_rules.specs.Groups.{owners_in}
use Rattle.ft_lock_rules.proofs.Lone.{lone_apart}
use Rattle.ft_lock_rules.proofs.cell_locks.CellLocks.add.Goals as goal

pub of_two-requires : goal.of_two-requires
of_two-requires c = lone_apart c.args.self.now c.in-One.one (sym (ap owners_in c.in-One.is) ∙ c.self.view_is) c.args.owner c.requires
