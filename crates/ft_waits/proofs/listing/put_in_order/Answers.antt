use Rattle.ft_waits.proofs.Ordered.{in_order, none_new, none_lost}
use Rattle.ft_waits.proofs.listing.put_in_order.Goals as goal

pub returns-clause-order : goal.returns-clause-order
returns-clause-order c =
    let sorted = c.sort_unstable.ensures in
    in_order c.args.edges.now.items c.sort_unstable.new.self.items sorted.permutation c.requires sorted.sorted

pub returns-clause-same : goal.returns-clause-same
returns-clause-same c = λ e.
    let moved = c.sort_unstable.ensures.permutation in
    (none_new c.args.edges.now.items c.sort_unstable.new.self.items moved e, none_lost c.args.edges.now.items c.sort_unstable.new.self.items moved e)
