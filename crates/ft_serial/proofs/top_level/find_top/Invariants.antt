use Rattle.std.proofs.Common.{◌≡◌, ◌||◌}
use Rattle.ft_posix.specs.Posix.{posix_calls}
use Rattle.ft_history.specs.Forest.{root}
use Rattle.ft_history.specs.History.{parent, is_gone}
use Rattle.ft_core.specs.States.{history}
use Rattle.ft_serial.proofs.top_level.find_top.Given as goal

-- the top is the same from the one that was come to, and so is who is gone, if none was on the way
abbrev pub invariant-loop-parent : goal.invariant-loop-parent
invariant-loop-parent l = record {
  top : root (parent posix_calls (history l.core.state)) l.top ≡ root (parent posix_calls (history l.core.state)) l.fn.txn;
  gone : is_gone posix_calls (history l.core.state) l.fn.txn ≡ (l.is_gone || is_gone posix_calls (history l.core.state) l.top);
}

abbrev pub decreases-loop-parent : goal.decreases-loop-parent
decreases-loop-parent l = l.top
