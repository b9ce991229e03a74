use Rattle.std.proofs.Common.{◌∙◌}
use Rattle.ft_base.proofs.Views.{get-seen, view-remove}
use Rattle.ft_base.proofs.table.Table.remove.Goals as goal

pub returns-clause-value : goal.returns-clause-value
returns-clause-value g c = c.remove.ensures.value ∙ get-seen _ _ c.args.key c.self.view_is

pub returns-clause-after : goal.returns-clause-after
returns-clause-after g c = view-remove _ _ _ c.args.key c.self.view_is c.remove.ensures.updates.0
