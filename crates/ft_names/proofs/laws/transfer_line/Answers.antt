use Rattle.ft_names.proofs.Unnamed.{bad_otherwise}
use Rattle.ft_names.proofs.laws.transfer_line.Goals as goal

pub returns : goal.returns
returns c = bad_otherwise
