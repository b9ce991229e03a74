use Rattle.std.proofs.Common.{ap, length}
use Rattle.ft_core.specs.States.{StoredState}
use Rattle.ft_record.specs.Recording.{Recording}
use Rattle.ft_record.specs.Recent.{forgotten_by}
use Rattle.ft_record.proofs.Records.{recent-forgotten}
use Rattle.ft_record.proofs.recent.Recent.forget.Goals as goal

pub invariant_of-self : goal.invariant_of-self
invariant_of-self c =
    let i = c.self.inside in
    recent-forgotten i.core.state i.past c.forget.new.self (forgotten_by i.since) (length c.of.result.value.state.events) c.self.invariant (ap (λ (k : StoredState). length k.state.events) c.of.ensures)
    (ap (λ (q : Recording). q.events) c.forget.ensures.same) (ap (λ (q : Recording). q.spare) c.forget.ensures.same)
