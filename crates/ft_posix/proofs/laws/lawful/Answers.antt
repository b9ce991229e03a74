use Rattle.ft_posix.proofs.Climbing.{steps-alike, stored-enough}
use Rattle.ft_posix.proofs.ComesUpon.{call-upon}
use Rattle.ft_posix.proofs.Kept.{soundness, freshness}
use Rattle.ft_posix.proofs.Lawful.{lawful}
use Rattle.ft_posix.proofs.laws.lawful.Goals as goal

pub returns : goal.returns
returns c = lawful steps-alike stored-enough call-upon soundness freshness
