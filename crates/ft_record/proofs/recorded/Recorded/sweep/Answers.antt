use Rattle.std.proofs.Common.{ap}
use Rattle.ft_core.specs.States.{State}
use Rattle.ft_record.proofs.Records.{still-recorded}
use Rattle.ft_record.proofs.recorded.Recorded.sweep.Goals as goal

pub invariant_of-self : goal.invariant_of-self
invariant_of-self c = still-recorded c.self.inside.recent c.sweep.new.self c.self.inside.base c.self.invariant (ap (λ (s : State). s.base) c.sweep.ensures.same) c.sweep.ensures.forgotten
