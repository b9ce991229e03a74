use Rattle.std.proofs.Common.{◌∙◌}
use Rattle.ft_lock_rules.proofs.Emptied.{list-kept}
use Rattle.ft_locks.proofs.cells.is_kept_among.Goals as goal

pub returns : goal.returns
returns c = c.is_kept_in.ensures ∙ list-kept c.args.all c.args.cell.now c.as_slice.result.now c.args.holders.now c.as_slice.ensures.holdings c.as_slice.ensures.apart
