use Rattle.std.proofs.Common.{ap, sym, ◌∙◌}
use Rattle.std.specs.FinMap as finite
use Rattle.ft_lock_rules.specs.Blocking.{against}
use Rattle.ft_lock_rules.proofs.InTheWay.{noted_harmless, noted_put}
use Rattle.ft_locks.proofs.blocking.note_list.Goals.{then-is_blocker+in_ok-insert, else-is_blocker}
use Rattle.ft_locks.proofs.blocking.note_list.Goals as goal

pub loop-holding-preserved : goal.loop-holding-preserved
loop-holding-preserved c u =
    let counted = against c.args.asker.now.rule c.args.forest.now c.args.asker.now.txn in
    elim c.if-is_blocker.branch [
      | then-is_blocker+in_ok-insert w ↦
          noted_put c.args.found.now c.loop-holding.found counted c.args.list.now c.loop-holding.holding-index c.loop-holding-test.true c.args.mode c.loop-holding.invariant
          c.if-is_blocker.found (w.found-is ∙ w.in_ok-insert.ensures.ok) (sym c.is_blocker.ensures ∙ w.if-is_blocker.true) u
      | else-is_blocker w ↦
          ap (λ f. finite.contains_key f u) w.found-is
          ∙ noted_harmless c.args.found.now c.loop-holding.found counted c.args.list.now c.loop-holding.holding-index c.loop-holding-test.true c.args.mode c.loop-holding.invariant
          (sym c.is_blocker.ensures ∙ w.if-is_blocker.false) u
    ]
