use Rattle.std.proofs.Common.{◌≡◌, ℕ, List, vec_len}
use Rattle.ft_posix.specs.declared.stamped.StampedCall.{StampedCall}
use Rattle.ft_serial.specs.Walks.{IsWalkOf}
use Rattle.ft_serial.proofs.walk.Walk.take_closing.Given as goal

abbrev pub invariant-loop-asked : goal.invariant-loop-asked
invariant-loop-asked l = record {
  walk : (given : List StampedCall) (n : ℕ) → IsWalkOf n l.initial.self l.core.state given → IsWalkOf n l.self l.core.state given;
  passed : l.self.passed ≡ l.initial.self.passed;
}

abbrev pub decreases-loop-asked : goal.decreases-loop-asked
decreases-loop-asked l = vec_len l.self.closing
