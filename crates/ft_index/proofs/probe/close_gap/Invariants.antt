use Rattle.std.proofs.Common.{◌-◌, length}
use Rattle.ft_index.specs.Probing.{IsClosing, SameKeys}
use Rattle.ft_index.proofs.probe.close_gap.Given as goal

-- only what stands behind `at` may not be found past the hole
abbrev pub invariant-loop-at : goal.invariant-loop-at
invariant-loop-at l = record {
  closing : IsClosing l.homes l.slots l.hole l.at;
  same : SameKeys l.fn.slots l.slots;
}

abbrev pub decreases-loop-at : goal.decreases-loop-at
decreases-loop-at l = length l.slots - l.at
