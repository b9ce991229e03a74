use Rattle.std.proofs.Common.{◌∙◌}
use Rattle.ft_base.proofs.Views.{get-seen}
use Rattle.ft_base.proofs.table.Table.get.Goals as goal

pub returns : goal.returns
returns g c = c.get.ensures.value ∙ get-seen _ _ c.args.key c.self.view_is
