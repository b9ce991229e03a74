use Rattle.ft_history.proofs.Without.{weak_ownership, locks_let_go, sweep_locked}
use Rattle.ft_history.proofs.locks_need_inheritance.Goals as goal

pub returns : goal.returns
returns c = record { weak_ownership = weak_ownership; let_go = locks_let_go; swept = sweep_locked }
