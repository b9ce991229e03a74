use Rattle.std.proofs.Common.{◌∙◌, ap}
use Rattle.ft_core.specs.States.{State, next_stamp}
use Rattle.ft_core.proofs.Gathered.{state-is}
use Rattle.ft_core.proofs.manager.Core.next_number.Goals as goal

pub returns : goal.returns
returns c = c.next_stamp.ensures ∙ ap (λ (q : State). next_stamp q) (state-is c.self.view_is)
