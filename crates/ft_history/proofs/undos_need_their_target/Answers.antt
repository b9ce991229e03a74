use Rattle.ft_history.proofs.Without.{revert_over_child, undo_over_child, undo_past_commit}
use Rattle.ft_history.proofs.undos_need_their_target.Goals as goal

pub returns : goal.returns
returns c = record { misfit = revert_over_child; live_child = undo_over_child; past_commit = undo_past_commit }
