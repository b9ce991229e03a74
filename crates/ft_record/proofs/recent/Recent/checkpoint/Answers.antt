use Rattle.std.proofs.Common.{refl, ap}
use Rattle.ft_core.specs.declared.request.Request.TheVariants as request
use Rattle.ft_core.specs.States.{State, base_now}
use Rattle.ft_core.proofs.Known.{call_laws, lock_laws}
use Rattle.ft_core.specs.declared.request.Answer.TheVariants.{Cleared}
use Rattle.ft_core.proofs.Legally.{legal-step}
use Rattle.ft_record.specs.Recording.{Recording}
use Rattle.ft_record.specs.Recent.{forgotten_by}
use Rattle.ft_record.proofs.Records.{recent-refused, recent-at, cleared-is}
use Rattle.ft_record.proofs.recent.Recent.checkpoint.Goals as goal

pub invariant_of-self : goal.invariant_of-self
invariant_of-self c =
    let i = c.self.inside in
    recent-refused i.core.state c.checkpoint.new.self.state request.Checkpoint c.in_err-checkpoint.field-0.0 i.past (forgotten_by i.since) c.self.invariant c.in_err-checkpoint.ensures.step i.past refl refl

pub invariant_of-self-2 : goal.invariant_of-self-2
invariant_of-self-2 c =
    let i = c.self.inside in
    let s : State = i.core.state in
    recent-at s.rule s.limits (base_now s) c.checkpoint.new.self.state (cleared-is s c.checkpoint.new.self.state c.in_ok-checkpoint.ensures.step) c.new.result (ap (λ (q : Recording). q.events) c.new.ensures) (ap (λ (q : Recording). q.spare) c.new.ensures)
    (legal-step call_laws lock_laws s c.checkpoint.new.self.state request.Checkpoint Cleared c.self.invariant.legal c.in_ok-checkpoint.ensures.step)
