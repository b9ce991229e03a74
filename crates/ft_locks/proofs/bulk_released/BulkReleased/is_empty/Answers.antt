use Rattle.std.proofs.Common.{sym, ◌∙◌}
use Rattle.std.proofs.lemmas.Bool.{leb-true}
use Rattle.ft_locks.proofs.GivenUp.{left_nothing}
use Rattle.ft_locks.proofs.bulk_released.BulkReleased.is_empty.Goals as goal

pub returns : goal.returns
returns c = λ over. sym c.self.view_is ∙ left_nothing c.self.inside.cells c.self.inside.next c.self.inside.end c.self.invariant (leb-true c.self.inside.end c.self.inside.next over)
