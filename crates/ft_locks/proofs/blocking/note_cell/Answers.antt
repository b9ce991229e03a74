use Rattle.std.proofs.Common.{◌||◌, ap, ◌∙◌}
use Rattle.std.specs.FinMap as finite
use Rattle.ft_lock_rules.specs.Blocking.{against, is_holder_in_way}
use Rattle.ft_lock_rules.proofs.Cases.{ok_then}
use Rattle.ft_locks.proofs.blocking.note_cell.Goals as goal

pub returns : goal.returns
returns c = ok_then c.note_holders.result _ _
    (λ (noted : _) u. noted u ∙ ap (λ o. finite.contains_key c.args.found.now u || is_holder_in_way (against c.args.asker.now.rule c.args.forest.now c.args.asker.now.txn) o c.args.mode u) c.holders.ensures)
    c.note_holders.ensures
