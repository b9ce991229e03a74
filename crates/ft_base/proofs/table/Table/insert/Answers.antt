use Rattle.std.proofs.Common.{◌∙◌}
use Rattle.ft_base.proofs.Views.{get-seen, view-put, no_place}
use Rattle.ft_base.proofs.table.Table.insert.Goals as goal

pub returns-clause-was : goal.returns-clause-was
returns-clause-was g c = c.in_ok-insert.ensures.old ∙ get-seen _ _ c.args.key c.self.view_is

pub returns-clause-ok : goal.returns-clause-ok
returns-clause-ok g c = view-put _ _ _ c.args.key c.args.value c.self.view_is c.in_ok-insert.ensures.updates.0

pub returns-in_err-insert-clause-place : goal.returns-in_err-insert-clause-place
returns-in_err-insert-clause-place g c place = absurd (no_place _ c.args.key _ c.self.view_is c.in_err-insert.ensures.absent place)
