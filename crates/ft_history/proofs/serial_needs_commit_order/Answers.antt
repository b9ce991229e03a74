use Rattle.ft_history.proofs.Without.{serial_reversed}
use Rattle.ft_history.proofs.serial_needs_commit_order.Goals as goal

pub returns : goal.returns
returns c = serial_reversed
