use Rattle.std.proofs.Common.{refl}
use Rattle.ft_index.specs.Probing.{home_of}
use Rattle.ft_index.proofs.probe.home.Goals as goal

pub returns-clause-home : goal.returns-clause-home
unfolding home_of
returns-clause-home c = refl
