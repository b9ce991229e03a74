use Rattle.ft_posix.specs.Posix.{posix_calls}
use Rattle.ft_history.proofs.Promises.{ownership}
use Rattle.ft_core.proofs.Known.{lawful_calls}
use Rattle.ft_core.proofs.laws.ownership.Goals as goal

pub returns : goal.returns
returns c = ownership posix_calls lawful_calls
