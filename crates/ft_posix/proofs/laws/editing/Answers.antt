use Rattle.ft_posix.proofs.Applying.{editing}
use Rattle.ft_posix.proofs.laws.editing.Goals as goal

pub returns : goal.returns
returns c = editing
