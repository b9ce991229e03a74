use Rattle.ft_history.proofs.Without.{abort_oldest_first, abort_rising, abort_own_alone, abort_leaves_descendants, commit_in_front}
use Rattle.ft_history.proofs.aborts_need_their_order.Goals as goal

pub returns : goal.returns
returns c = record { oldest_first = abort_oldest_first; rising = abort_rising; committed_children = abort_own_alone; live_descendants = abort_leaves_descendants; in_front = commit_in_front }
