use Rattle.std.proofs.Common.{◌-◌, ◌≤◌, length}
use Rattle.ft_index.specs.Slots.{AreFull}
use Rattle.ft_index.proofs.probe.first_free.Given as goal

-- what was passed is full
abbrev pub invariant-loop-at : goal.invariant-loop-at
invariant-loop-at l = record {
  from : l.start ≤ l.at;
  within : l.at ≤ length l.slots;
  full : AreFull l.slots l.start l.at;
}

abbrev pub decreases-loop-at : goal.decreases-loop-at
decreases-loop-at l = length l.slots - l.at
