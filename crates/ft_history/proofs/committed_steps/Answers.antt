use Rattle.ft_laws.specs.Tiny.{tiny_calls}
use Rattle.ft_laws.proofs.Tiny.{tiny_lawful}
use Rattle.ft_history.proofs.Growing.{committed_steps as law}
use Rattle.ft_history.proofs.committed_steps.Goals as goal

pub returns : goal.returns
returns c = law tiny_calls tiny_lawful
