use Rattle.std.proofs.Common.{◌-◌, length}
use Rattle.ft_serial.specs.Serials.{committed_calls}
use Rattle.ft_serial.specs.Walks.{IsWalkOf}
use Rattle.ft_serial.proofs.order.serial.Given as goal

abbrev pub invariant-loop-calls : goal.invariant-loop-calls
invariant-loop-calls l = IsWalkOf 0 l.walk l.core.state l.calls.items

abbrev pub decreases-loop-calls : goal.decreases-loop-calls
decreases-loop-calls l = length (committed_calls l.core.state) - length l.calls.items
