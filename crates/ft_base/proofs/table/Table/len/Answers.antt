use Rattle.std.proofs.Common.{◌∙◌}
use Rattle.ft_base.proofs.Orders.{len-seen}
use Rattle.ft_base.proofs.table.Table.len.Goals as goal

pub returns : goal.returns
returns g c = c.len.ensures.len ∙ len-seen _ _ c.self.view_is c.len.ensures.unique
