use Rattle.ft_posix.specs.Posix.{posix_calls}
use Rattle.ft_history.proofs.Promises.{log_order}
use Rattle.ft_core.proofs.Known.{lawful_calls}
use Rattle.ft_core.proofs.laws.log_order.Goals as goal

pub returns : goal.returns
returns c = log_order posix_calls lawful_calls
