use Rattle.std.proofs.lemmas.Result.{on_ok_weaker}
use Rattle.ft_locks.proofs.Listed.{four_added}
use Rattle.ft_locks.proofs.listing.list_holding.Goals as goal

pub returns : goal.returns
returns c =
    on_ok_weaker c.list_lock-4.result
    (four_added c.args.cell.now c.args.holding.now c.args.lines.now.items c.list_lock.new.lines.items c.list_lock-2.new.lines.items c.list_lock-3.new.lines.items c.list_lock-4.new.lines.items
    c.in_ok-list_lock.ensures c.in_ok-list_lock-2.ensures c.in_ok-list_lock-3.ensures)
    c.list_lock-4.ensures
