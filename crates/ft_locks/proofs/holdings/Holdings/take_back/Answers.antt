use Rattle.std.proofs.Common.{◌∙◌}
use Rattle.ft_locks.proofs.TakenBack.{back_step, back_still}
use Rattle.ft_locks.proofs.holdings.Holdings.take_back.Goals as goal

pub loop-count-preserved : goal.loop-count-preserved
loop-count-preserved c = record {
  marks = λ d u.
      back_step c.loop-count.self c.drop_front.new.self c.args.owner c.loop-count.count c.drop_front.result c.loop-count-test.true c.drop_front.ensures.none c.drop_front.ensures.dropped d u
      ∙ c.loop-count.invariant.marks d u;
  still = λ u. back_still c.loop-count.self c.drop_front.new.self c.args.owner c.drop_front.result c.drop_front.ensures.none c.drop_front.ensures.dropped u ∙ c.loop-count.invariant.still u;
}
