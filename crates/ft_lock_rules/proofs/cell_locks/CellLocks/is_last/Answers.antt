use Rattle.std.proofs.Common.{sym, ap, ◌∙◌}
use Rattle.std.specs.FinMap as finite
use Rattle.ft_lock_rules.specs.Groups.{owners_in}
use Rattle.ft_lock_rules.proofs.HolderLists.{remove_none}
use Rattle.ft_lock_rules.proofs.Lone.{nobody, lone_last, lone_more}
use Rattle.ft_lock_rules.proofs.cell_locks.CellLocks.is_last.Goals as goal

pub returns-in-Nobody-clause-none : goal.returns-in-Nobody-clause-none
returns-in-Nobody-clause-none c = λ e u.
    let none = nobody c.args.self.now (sym (ap owners_in c.in-Nobody.is) ∙ c.self.view_is) in
    ap (λ m. finite.get m u) (remove_none c.args.self.now c.args.owner (none c.args.owner)) ∙ none u

pub returns-in-One-clause-none : goal.returns-in-One-clause-none
returns-in-One-clause-none c = lone_last c.args.self.now c.in-One.one (sym (ap owners_in c.in-One.is) ∙ c.self.view_is) c.args.owner

pub returns-in-One-clause-some : goal.returns-in-One-clause-some
returns-in-One-clause-some c = lone_more c.args.self.now c.in-One.one (sym (ap owners_in c.in-One.is) ∙ c.self.view_is) c.args.owner
