use Rattle.std.proofs.Common.{sym, ap, ◌∙◌}
use Rattle.ft_lock_rules.specs.Cells.{marks_at}
use Rattle.ft_lock_rules.specs.Holdings.{Held, cells_under, lists_under}
use Rattle.ft_lock_rules.proofs.Joining.{none_placed}
use Rattle.ft_lock_rules.proofs.Under.{list-under}
use Rattle.ft_locks.proofs.holdings.Holdings.is_bare.Goals as goal

pub returns : goal.returns
returns c = λ bare d.
    sym (ap (λ (h : Held). marks_at h.cells d c.args.owner) c.self.view_is)
    ∙ none_placed c.self.inside.cells.cells (lists_under c.self.inside.cells.at c.self.inside.chains) c.self.invariant.joined c.args.owner
    (list-under c.self.inside.cells.at c.self.inside.chains c.args.owner ∙ ap (cells_under c.self.inside.cells.at) (c.is_empty.ensures.0 bare)) d
