use Rattle.ft_posix.specs.Posix.{posix_calls}
use Rattle.ft_history.proofs.Promises.{exact_ledger}
use Rattle.ft_core.proofs.Known.{lawful_calls}
use Rattle.ft_core.proofs.laws.exact_ledger.Goals as goal

pub returns : goal.returns
returns c = exact_ledger posix_calls lawful_calls
