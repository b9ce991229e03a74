use Rattle.std.proofs.Common.{sym, ap, ◌∙◌}
use Rattle.ft_lock_rules.specs.Groups.{owners_in}
use Rattle.ft_lock_rules.proofs.HolderLists.{remove_none}
use Rattle.ft_lock_rules.proofs.Lone.{nobody, lone_removed, lone_kept}
use Rattle.ft_lock_rules.proofs.cell_locks.CellLocks.remove.Goals as goal
use Rattle.ft_lock_rules.proofs.cell_locks.CellLocks.remove.Goals.{in-Several-1, in-Nobody-1}

pub returns-in-Nobody : goal.returns-in-Nobody
returns-in-Nobody c =
    c.self.view_is ∙ sym (remove_none c.args.self.now c.args.owner (nobody c.args.self.now (sym (ap owners_in c.in-Nobody.is) ∙ c.self.view_is) c.args.owner))

pub returns-then-one-owner : goal.returns-then-one-owner
returns-then-one-owner c = elim c.match-self-2.branch [
  | in-Several-1 w ↦ w.self-is ∙ lone_removed c.args.self.now c.in-One.one (sym (ap owners_in c.in-One.is) ∙ c.self.view_is) c.args.owner c.if-one-owner.true
  | in-Nobody-1 w ↦ w.self-is ∙ lone_removed c.args.self.now c.in-One.one (sym (ap owners_in c.in-One.is) ∙ c.self.view_is) c.args.owner c.if-one-owner.true
]

pub returns-else-one-owner : goal.returns-else-one-owner
returns-else-one-owner c = lone_kept c.args.self.now c.in-One.one (sym (ap owners_in c.in-One.is) ∙ c.self.view_is) c.args.owner c.if-one-owner.false
