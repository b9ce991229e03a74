use Rattle.std.proofs.Common.{rules}
use Rattle.test_parts.proofs.of_undo.make_calls_on.Goals as goal

pub loop-place-preserved : goal.loop-place-preserved
loop-place-preserved c = (c.in_ok-plays.ensures.sound, λ k above. c.in_ok-plays.ensures.free k (c.loop-place.invariant.1 k (search rules)) (search rules))
