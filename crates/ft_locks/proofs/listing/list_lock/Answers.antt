use Rattle.std.proofs.Common.{ap}
use Rattle.ft_lock_rules.specs.LockModes.{has_mark}
use Rattle.ft_lock_rules.proofs.Tables.{line}
use Rattle.ft_locks.proofs.Listed.{lock_added, lock_skipped}
use Rattle.ft_locks.proofs.listing.list_lock.Goals as goal

pub returns-in_ok-push : goal.returns-in_ok-push
returns-in_ok-push c =
    lock_added c.args.lines.now.items c.push.new.self.items (line c.in_ok-cell.cell c.args.holding.now.owner c.args.mode c.args.kind) (line c.args.cell.now c.args.holding.now.owner c.args.mode c.args.kind)
    (has_mark c.args.holding.now.marks c.args.mode c.args.kind) c.in_ok-push.ensures.items (ap (λ d. line d c.args.holding.now.owner c.args.mode c.args.kind) c.in_ok-cell.ensures.cases) c.if-has.ensures

pub returns-else-has : goal.returns-else-has
returns-else-has c =
    lock_skipped c.args.lines.now.items (line c.args.cell.now c.args.holding.now.owner c.args.mode c.args.kind) (has_mark c.args.holding.now.marks c.args.mode c.args.kind) c.if-has.ensures
