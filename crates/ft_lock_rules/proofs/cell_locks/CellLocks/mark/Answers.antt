use Rattle.std.proofs.Common.{sym, ap, ◌∙◌}
use Rattle.ft_lock_rules.specs.CellLocks.{Owners, alone, marked}
use Rattle.ft_lock_rules.specs.Groups.{owners_in}
use Rattle.ft_lock_rules.proofs.HolderLists.{nothing_marked}
use Rattle.ft_lock_rules.proofs.Lone.{nobody, lone_marked, lone_unmarked}
use Rattle.ft_lock_rules.proofs.cell_locks.CellLocks.mark.Goals as goal
use Rattle.ft_lock_rules.proofs.cell_locks.CellLocks.mark.Goals.{in-Nobody, in-One+then-one-owner, in-One+else-one-owner, in-Several}

pub returns : goal.returns
returns c = elim c.match-self.branch [
  | in-Nobody w ↦
      let is = sym (ap owners_in w.in-Nobody.is) ∙ c.self.view_is in
      ap (λ a. owners_in a.group) w.self-inside-is ∙ c.self.view_is ∙ nothing_marked c.args.self.now c.args.owner c.args.marks (nobody c.args.self.now is c.args.owner)
  | in-One+then-one-owner w ↦
      ap (λ a. owners_in a.group) w.self-inside-is
      ∙ ap (λ x. alone (record { owner = w.in-One.one.owner; marks = x })) w.with-one.ensures
      ∙ lone_marked c.args.self.now w.in-One.one (sym (ap owners_in w.in-One.is) ∙ c.self.view_is) c.args.owner c.args.marks w.if-one-owner.true
  | in-One+else-one-owner w ↦
      ap (λ a. owners_in a.group) w.self-inside-is
      ∙ (sym (ap owners_in w.in-One.is) ∙ c.self.view_is)
      ∙ lone_unmarked c.args.self.now w.in-One.one (sym (ap owners_in w.in-One.is) ∙ c.self.view_is) c.args.owner c.args.marks w.if-one-owner.false
  | in-Several w ↦
      ap (λ a. owners_in a.group) w.self-inside-is
      ∙ w.mark.ensures ∙ ap (λ (m : Owners). marked m c.args.owner c.args.marks) (w.deref_mut.ensures.value ∙ sym (ap owners_in w.in-Several.is) ∙ c.self.view_is)
]
