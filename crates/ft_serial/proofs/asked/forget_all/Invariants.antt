use Rattle.std.proofs.Common.{◌≡◌, take}
use Rattle.ft_serial.specs.Walks.{without_calls}
use Rattle.ft_serial.proofs.asked.forget_all.Given as goal

abbrev pub invariant-loop-asked : goal.invariant-loop-asked
invariant-loop-asked l = l.undone ≡ without_calls l.initial.undone (take l.asked-index l.calls)
