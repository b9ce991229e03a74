use Rattle.std.proofs.Common.{◌∙◌}
use Rattle.ft_lock_rules.proofs.Granting.{marked_lines, marked_place}
use Rattle.ft_locks.proofs.holdings.Holdings.mark_all.Goals as goal

pub loop-access-preserved : goal.loop-access-preserved
loop-access-preserved c = record {
  lines = λ x.
      marked_lines c.args.self.now.cells c.loop-access.self.cells c.mark.new.self.cells c.args.owner c.args.accesses.now c.loop-access.access-index c.access-item.result c.loop-access-test.true c.access-item.is
      c.held.result c.held.ensures c.mark.ensures.marks c.loop-access.invariant.places x (c.loop-access.invariant.lines x);
  places =
      marked_place c.args.self.now.cells c.loop-access.self.cells c.mark.new.self.cells c.args.owner c.args.accesses.now c.loop-access.access-index c.access-item.result c.loop-access-test.true c.access-item.is
      c.held.result c.held.ensures c.mark.ensures.marks c.loop-access.invariant.places;
  lists = c.mark.ensures.lists ∙ c.loop-access.invariant.lists;
}
