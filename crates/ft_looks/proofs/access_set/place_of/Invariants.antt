use Rattle.std.proofs.Common.{◌-◌, ◌≤◌, ◌<◌, length}
use Rattle.ft_looks.proofs.Searching.{IsBetween}
use Rattle.ft_looks.proofs.access_set.place_of.Given as goal

-- the cell's place lies in the part that is left
abbrev pub invariant-loop-from : goal.invariant-loop-from
invariant-loop-from g l = record {
  between : IsBetween (g.T.Touch.cell l.fn.touched) l.fn.list l.from l.to;
  within : l.to ≤ length l.fn.list;
  tried : l.from < l.to → (l.from ≤ l.at) × (l.at < l.to);
}

abbrev pub decreases-loop-from : goal.decreases-loop-from
decreases-loop-from g l = l.to - l.from
