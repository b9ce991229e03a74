use Rattle.std.proofs.Common.{◌≡◌, ◌-◌, ℕ, List, drop, length}
use Rattle.ft_posix.specs.declared.stamped.StampedCall.{StampedCall}
use Rattle.ft_serial.specs.Walks.{IsWalkOf}
use Rattle.ft_serial.proofs.walk.Walk.next.Given as goal

abbrev pub invariant-loop-call : goal.invariant-loop-call
invariant-loop-call l = (given : List StampedCall) (n : ℕ) → l.events ≡ drop n l.core.state.events → IsWalkOf n l.initial.self l.core.state given → IsWalkOf n l.self l.core.state given

abbrev pub decreases-loop-call : goal.decreases-loop-call
decreases-loop-call l = length l.events - l.self.passed
