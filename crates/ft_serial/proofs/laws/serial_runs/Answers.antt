use Rattle.ft_serial.proofs.Running.{runs-serially}
use Rattle.ft_serial.proofs.laws.serial_runs.Goals as goal

pub returns : goal.returns
returns c = runs-serially c.args.core.now c.reached.ensures
