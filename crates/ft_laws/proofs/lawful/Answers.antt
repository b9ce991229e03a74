use Rattle.ft_laws.proofs.Tiny.{tiny_lawful}
use Rattle.ft_laws.proofs.lawful.Goals as goal

pub returns : goal.returns
returns c = tiny_lawful
