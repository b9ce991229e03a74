use Rattle.ft_shared.specs.Victims.{WasVictim}
use Rattle.ft_shared.proofs.Staying.{some-core}
use Rattle.ft_shared.proofs.shared.Shared.is_victim.Goals as goal

pub returns : goal.returns
returns g c = λ is. some-core (λ state. WasVictim state c.args.txn) c.is_victim-is.ensures.from (c.is_victim-is.ensures.victim is)
