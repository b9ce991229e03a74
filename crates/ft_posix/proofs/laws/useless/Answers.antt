use Rattle.ft_posix.proofs.Climbing.{steps-alike, stored-enough}
use Rattle.ft_posix.proofs.ComesUpon.{call-upon}
use Rattle.ft_posix.proofs.Kept.{soundness, freshness}
use Rattle.ft_posix.proofs.Lawful.{lawful}
use Rattle.ft_posix.proofs.Leaving.{useless}
use Rattle.ft_posix.proofs.laws.useless.Goals as goal

pub returns : goal.returns
returns c = useless (lawful steps-alike stored-enough call-upon soundness freshness) soundness
