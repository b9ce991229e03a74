use Rattle.std.proofs.Common.{[], ◌∷◌, sym, ap, ◌∙◌}
use Rattle.ft_lock_rules.specs.CellLocks.{marks_in}
use Rattle.ft_lock_rules.specs.Groups.{owners_in}
use Rattle.ft_lock_rules.proofs.HolderLists.{get-list}
use Rattle.ft_lock_rules.proofs.Lone.{nobody}
use Rattle.ft_lock_rules.proofs.cell_locks.CellLocks.may_conflict.Goals as goal

pub returns-in-Nobody-clause-all : goal.returns-in-Nobody-clause-all
returns-in-Nobody-clause-all c = λ u marks e way. sym (nobody c.args.self.now (sym (ap owners_in c.in-Nobody.is) ∙ c.self.view_is) u) ∙ e

pub returns-in-One-clause-all : goal.returns-in-One-clause-all
returns-in-One-clause-all c = λ u marks e way.
    ap (λ l. marks_in l u) c.from_ref.ensures.value
    ∙ sym (get-list c.args.self.now (c.in-One.one ∷ []) (sym (ap owners_in c.in-One.is) ∙ c.self.view_is) u) ∙ e

pub returns-in-One-clause-had : goal.returns-in-One-clause-had
returns-in-One-clause-had c = λ u marks e.
    get-list c.args.self.now (c.in-One.one ∷ []) (sym (ap owners_in c.in-One.is) ∙ c.self.view_is) u
    ∙ sym (ap (λ l. marks_in l u) c.from_ref.ensures.value) ∙ e
