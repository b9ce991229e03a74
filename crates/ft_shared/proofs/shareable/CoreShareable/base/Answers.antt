use Rattle.std.proofs.Common.{ap}
use Rattle.ft_core.specs.States.{State}
use Rattle.ft_shared.proofs.shareable.CoreShareable.base.Goals as goal

pub returns-clause-bare : goal.returns-clause-bare
returns-clause-bare c = c.tree.ensures.bare (ap (λ (s : State). s.events) c.requires)
