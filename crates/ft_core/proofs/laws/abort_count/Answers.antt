use Rattle.ft_posix.specs.Posix.{posix_calls}
use Rattle.ft_history.proofs.Promises.{abort_count as law}
use Rattle.ft_core.proofs.Known.{lawful_calls}
use Rattle.ft_core.proofs.laws.abort_count.Goals as goal

pub returns : goal.returns
returns c = law posix_calls lawful_calls
