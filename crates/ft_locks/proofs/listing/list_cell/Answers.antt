use Rattle.std.proofs.Common.{◌+◌, ap, ◌∙◌}
use Rattle.std.specs.List.{count_by}
use Rattle.std.proofs.lemmas.List.{take_all}
use Rattle.ft_lock_rules.specs.Listing.{times_listed, is_by}
use Rattle.ft_locks.proofs.Listed.{holding_more}
use Rattle.ft_locks.proofs.listing.list_cell.Goals as goal

pub loop-holding-preserved : goal.loop-holding-preserved
loop-holding-preserved c = λ l.
    holding_more c.args.cell.now l c.args.list.now c.loop-holding.holding-index _ _ _ _ c.loop-holding-test.true (c.loop-holding.invariant l) (c.in_ok-list_holding.ensures l)

pub returns : goal.returns
returns c = λ l. c.loop-holding.invariant l ∙ ap (λ hs. times_listed c.args.lines.now.items l + count_by (is_by c.args.cell.now l) hs) (take_all c.loop-holding.holding-index c.args.list.now c.loop-holding-test.false)
