use Rattle.std.proofs.Common.{◌≡◌, length}
use Rattle.ft_undo.specs.Undone.{restored, CanRestoreAll}
use Rattle.ft_undo.proofs.undo.unwind.Given as goal

-- what is left can be taken back, and then all is
abbrev pub invariant-loop-back : goal.invariant-loop-back
invariant-loop-back l = record {
  can : CanRestoreAll l.tree l.backs.items;
  same : restored l.tree l.backs.items ≡ restored l.initial.tree l.fn.backs.items;
}

abbrev pub decreases-loop-back : goal.decreases-loop-back
decreases-loop-back l = length l.backs.items
