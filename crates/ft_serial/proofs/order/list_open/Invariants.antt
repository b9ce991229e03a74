use Rattle.std.proofs.Common.{◌≡◌, ◌++◌, take, map}
use Rattle.ft_core.specs.States.{history}
use Rattle.ft_serial.specs.Serials.{stamped}
use Rattle.ft_serial.proofs.Opening.{open_in}
use Rattle.ft_serial.proofs.order.list_open.Given as goal

-- the open calls among the events so far are listed
abbrev pub invariant-loop-place : goal.invariant-loop-place
invariant-loop-place l = l.calls.items ≡ l.initial.calls.items ++ map stamped (open_in (history l.core.state) (take l.place l.core.state.events))
