use Rattle.std.proofs.Common.{sym, ap, ◌∙◌}
use Rattle.std.specs.FinMap as finite
use Rattle.ft_lock_rules.specs.CellLocks.{Owners, handed}
use Rattle.ft_lock_rules.specs.Groups.{owners_in}
use Rattle.ft_lock_rules.proofs.HolderLists.{never_none}
use Rattle.ft_lock_rules.proofs.Lone.{nobody, lone_heir, lone_handed}
use Rattle.ft_lock_rules.proofs.cell_locks.CellLocks.hand_over.Goals as goal
use Rattle.ft_lock_rules.proofs.cell_locks.CellLocks.hand_over.Goals.{in-Nobody, in-One, in-Several}

pub returns-clause-merged : goal.returns-clause-merged
returns-clause-merged c = elim c.match-self.branch [
  | in-Nobody w ↦ never_none _ (nobody c.args.self.now (sym (ap owners_in w.in-Nobody.is) ∙ c.self.view_is) c.args.from) c.requires.there
  | in-One w ↦ w.result-is ∙ lone_heir c.args.self.now w.in-One.one (sym (ap owners_in w.in-One.is) ∙ c.self.view_is) c.args.from c.args.to c.requires.there c.requires.apart
  | in-Several w ↦ w.result-is ∙ w.hand_over.ensures.merged ∙ ap (λ (m : Owners). finite.contains_key m c.args.to) (w.deref_mut.ensures.value ∙ sym (ap owners_in w.in-Several.is) ∙ c.self.view_is)
]

pub returns-clause-after : goal.returns-clause-after
returns-clause-after c = elim c.match-self.branch [
  | in-Nobody w ↦ never_none _ (nobody c.args.self.now (sym (ap owners_in w.in-Nobody.is) ∙ c.self.view_is) c.args.from) c.requires.there
  | in-One w ↦ ap (λ a. owners_in a.group) w.self-inside-is ∙ lone_handed c.args.self.now w.in-One.one (sym (ap owners_in w.in-One.is) ∙ c.self.view_is) c.args.from c.args.to c.args.marks c.requires.there c.requires.apart
  | in-Several w ↦ ap (λ a. owners_in a.group) w.self-inside-is ∙ w.hand_over.ensures.after ∙ ap (λ (m : Owners). handed m c.args.from c.args.to c.args.marks) (w.deref_mut.ensures.value ∙ sym (ap owners_in w.in-Several.is) ∙ c.self.view_is)
]
