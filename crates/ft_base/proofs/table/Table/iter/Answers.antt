use Rattle.std.proofs.Common.{sym, subst}
use Rattle.std.specs.List.Sorted.{IsPermutation}
use Rattle.std.specs.FinMap.{entries}
use Rattle.ft_base.proofs.Orders.{entries-seen}
use Rattle.ft_base.proofs.table.Table.iter.Goals as goal

pub returns-clause-entries : goal.returns-clause-entries
returns-clause-entries g c = subst (IsPermutation (entries c.args.self.now)) (sym c.iter.ensures.rest) (entries-seen c.self.inside.map.entries c.args.self.now c.self.view_is c.iter.ensures.unique)
