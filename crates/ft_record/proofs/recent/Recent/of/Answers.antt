use Rattle.std.proofs.Common.{ap}
use Rattle.ft_core.specs.States.{State}
use Rattle.ft_record.specs.Recording.{Recording}
use Rattle.ft_record.proofs.Records.{recent-at}
use Rattle.ft_record.proofs.recent.Recent.of.Goals as goal

pub invariant_of-result : goal.invariant_of-result
invariant_of-result c =
    let s : State = c.args.core.state in
    recent-at s.rule s.limits s.base s c.requires c.new-past.result (ap (λ (q : Recording). q.events) c.new-past.ensures) (ap (λ (q : Recording). q.spare) c.new-past.ensures) (record { started = c.alloc.ensures.started; legal = c.alloc.ensures.legal })
