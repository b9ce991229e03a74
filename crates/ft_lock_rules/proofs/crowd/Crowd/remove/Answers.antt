use Rattle.std.proofs.Common.{IsSome, is_some, subst, sym, ap, ◌∙◌}
use Rattle.std.specs.Ordering.{nat_cmp}
use Rattle.std.specs.FinMap as finite
use Rattle.ft_lock_rules.proofs.HolderLists.{none_is, never_none, remove_none, refilled, gone_itself, there_still}
use Rattle.ft_lock_rules.proofs.crowd.Crowd.remove.Goals as goal

pub returns-then-is_none : goal.returns-then-is_none
returns-then-is_none c = sym (remove_none c.args.self.now c.args.owner (sym c.get.ensures ∙ none_is c.get.result c.if-is_none.ensures))

pub rename-requires-clause-there : goal.rename-requires-clause-there
rename-requires-clause-there c =
    subst (λ m. IsSome (finite.get m c.args.owner)) (sym c.in-Some.ensures.taken)
    (there_still c.args.self.now c.args.owner c.in-Some.last.owner (ap is_some (sym c.get.ensures) ∙ c.if-is_none.ensures) c.if-last-owner.true)

pub rename-requires-clause-absent : goal.rename-requires-clause-absent
rename-requires-clause-absent c = ap (λ m. finite.get m c.in-Some.last.owner) c.in-Some.ensures.taken ∙ gone_itself c.args.self.now c.in-Some.last.owner

pub returns-then-last-owner : goal.returns-then-last-owner
returns-then-last-owner c =
    c.rename.ensures ∙ ap (λ m. finite.insert (finite.remove m c.args.owner) c.in-Some.last.owner c.in-Some.last.marks) c.in-Some.ensures.taken
    ∙ refilled c.args.self.now c.args.owner c.in-Some.last.owner c.in-Some.last.marks c.in-Some.ensures.had c.if-last-owner.true

pub returns-else-last-owner : goal.returns-else-last-owner
returns-else-last-owner c = c.in-Some.ensures.taken ∙ ap (finite.remove c.args.self.now) c.if-last-owner.false

pub returns-in_default : goal.returns-in_default
returns-in_default c =
    never_none _ (ap (λ m. finite.get m c.args.owner) c.in_default.ensures.none ∙ finite.get-empty nat_cmp c.args.owner) (ap is_some (sym c.get.ensures) ∙ c.if-is_none.ensures)
