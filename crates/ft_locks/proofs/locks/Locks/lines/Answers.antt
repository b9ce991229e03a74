use Rattle.std.proofs.Common.{refl, subst}
use Rattle.ft_lock_rules.specs.Locks.{AreListed}
use Rattle.ft_lock_rules.specs.Seen.{table_of}
use Rattle.ft_locks.proofs.GivenUp.{listed-gone}
use Rattle.ft_locks.proofs.Listed.{all_listed}
use Rattle.ft_locks.proofs.locks.Locks.lines.Goals as goal

pub returns : goal.returns
returns c =
    subst (λ t. AreListed t c.sort.new.self.items) c.self.view_is
    (listed-gone c.self.inside.bulk_keeps_all c.self.inside.keeps_all c.self.inside.bulk (table_of c.self.inside.holdings.cells c.self.inside.holdings.lists) c.sort.new.self.items
    (all_listed (table_of c.self.inside.holdings.cells c.self.inside.holdings.lists) c.self.inside.holdings.cells c.self.inside.holdings.lists c.new-lines.result.items c.list.new.lines.items c.sort.new.self.items
    refl c.new-lines.ensures.items c.in_ok-list.ensures c.sort.ensures.permutation c.in_ok-sort.ensures.sorted))
