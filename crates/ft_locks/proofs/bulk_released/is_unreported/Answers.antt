use Rattle.std.proofs.Common.{not, ap, sym, ◌∙◌}
use Rattle.ft_locks.proofs.GivenUp.{told_if, told_unless}
use Rattle.ft_locks.proofs.bulk_released.is_unreported.Goals as goal

pub returns-then-has_keeper : goal.returns-then-has_keeper
returns-then-has_keeper c = ap not c.is_known.ensures ∙ told_if _ _ (sym c.has_keeper.ensures ∙ c.if-has_keeper.true)

pub returns-else-has_keeper : goal.returns-else-has_keeper
returns-else-has_keeper c = c.if-has_keeper.false ∙ told_unless _ _ (sym c.has_keeper.ensures ∙ c.if-has_keeper.false)
