use Rattle.std.proofs.Common.{◌-◌, length}
use Rattle.ft_index.specs.Slots.{HasMark}
use Rattle.ft_index.proofs.probe.find.Given as goal

-- the slot with the mark is still to come
abbrev pub invariant-loop-at : goal.invariant-loop-at
invariant-loop-at l = HasMark l.slots l.at l.mark

abbrev pub decreases-loop-at : goal.decreases-loop-at
decreases-loop-at l = length l.slots - l.at
