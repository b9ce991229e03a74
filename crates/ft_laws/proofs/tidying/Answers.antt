use Rattle.ft_laws.specs.Tiny.{tiny_calls}
use Rattle.ft_laws.proofs.Tiny.{tiny_lawful, tiny_tidying}
use Rattle.ft_laws.proofs.Forgetting.{tidying as law}
use Rattle.ft_laws.proofs.tidying.Goals as goal

pub returns : goal.returns
returns c = record { law = law tiny_calls tiny_lawful; possible = tiny_tidying }
