-- The replay of a list of calls on the plain tree, and the replies. Each call is made as POSIX says
-- (`exec`).
use Rattle.std.specs.Prelude.{◌≡◌, ◌≤◌, ℕ, false, List, [], ◌∷◌}
use Rattle.ft_cells.specs.declared.cell.Cell.{Cell}
use Rattle.ft_cells.specs.Cells.{Cells}
use Rattle.ft_cells.specs.Plain.{PlainTree}
use Rattle.ft_tree.specs.Sound.{AreSoundCells, IsFree}
use Rattle.ft_tree.specs.Sweep.{is_useless}
use Rattle.ft_posix.specs.declared.call.Call.{Call}
use Rattle.ft_posix.specs.declared.call.Reply.{Reply}
use Rattle.ft_posix.specs.declared.stamped.StampedCall.{StampedCall}
use Rattle.ft_posix.specs.Exec.{exec}
use Rattle.ft_view.specs.declared.TheConstants.{READING}

-- the plain tree after the calls, one after another
abbrev pub replayed : PlainTree → List StampedCall → PlainTree
replayed p [] = p
replayed p (c ∷ cs) = replayed (exec p c.stamp c.call).0 cs

-- the reply of each of the calls
abbrev pub replies_of : PlainTree → List StampedCall → List Reply
replies_of p [] = []
replies_of p (c ∷ cs) = (exec p c.stamp c.call).1 ∷ replies_of (exec p c.stamp c.call).0 cs

-- the reply of a call on a tree; its number is 2^63 (`READING`), which is no stamp of a call that
-- was made
abbrev pub reply_on : PlainTree → Call → Reply
reply_on p call = (exec p READING call).1

-- The cells are sound, and nothing in them has a number from 2^63 on: the numbers with which a
-- reader asks number nothing in them. Each place that is stored is of use (POSIX.1-2017, System
-- Interfaces, unlink, rmdir and close).
pub record IsReadable (cells : Cells) : Type 0 where
  pub sound : AreSoundCells cells
  pub free : (k : ℕ) → READING ≤ k → IsFree cells k
  pub bare : (c : Cell) → is_useless cells c ≡ false
