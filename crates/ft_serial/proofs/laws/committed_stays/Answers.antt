use Rattle.ft_serial.proofs.Moving.{committed-stays}
use Rattle.ft_serial.proofs.laws.committed_stays.Goals as goal

pub returns : goal.returns
returns c = committed-stays
