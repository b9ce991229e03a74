use Rattle.ft_posix.proofs.Climbing.{steps-alike, stored-enough}
use Rattle.ft_posix.proofs.ComesUpon.{call-upon}
use Rattle.ft_posix.proofs.Framed.{exchanged}
use Rattle.ft_posix.proofs.Kept.{soundness, freshness}
use Rattle.ft_posix.proofs.Lawful.{exchange}
use Rattle.ft_posix.proofs.laws.exchange.Goals as goal

pub returns-clause-two : goal.returns-clause-two
returns-clause-two c = exchanged steps-alike stored-enough call-upon soundness freshness

pub returns-clause-in_runs : goal.returns-clause-in_runs
returns-clause-in_runs c = exchange steps-alike stored-enough call-upon soundness freshness
