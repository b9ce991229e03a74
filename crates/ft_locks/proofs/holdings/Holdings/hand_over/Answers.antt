use Rattle.std.proofs.Common.{sym, ap, ◌∙◌}
use Rattle.ft_owned_lists.specs.OwnedLists.{list_in}
use Rattle.ft_lock_rules.specs.Holdings.{Held, cells_under}
use Rattle.ft_lock_rules.proofs.Under.{list-under}
use Rattle.ft_locks.proofs.holdings.Holdings.hand_over.Goals as goal

pub hand_whole-requires-clause-none : goal.hand_whole-requires-clause-none
hand_whole-requires-clause-none c =
    sym (ap (λ (h : Held). list_in h.lists c.args.to) c.self.view_is) ∙ list-under c.self.inside.cells.at c.self.inside.chains c.args.to
    ∙ ap (cells_under c.self.inside.cells.at) (c.is_empty.ensures.0 c.if-is_empty.true)
