use Rattle.std.proofs.Common.{◌+◌, ◌∷◌, ◌++◌, [], Some, ap, ◌∙◌}
use Rattle.ft_core.specs.declared.request.Event.TheVariants as event
use Rattle.ft_core.specs.declared.request.Request.TheVariants as request
use Rattle.ft_core.proofs.Known.{call_laws, lock_laws}
use Rattle.ft_record.specs.Recent.{forgotten_by}
use Rattle.ft_record.specs.Recording.{Recording}
use Rattle.ft_record.proofs.Records.{recent-begun, recent-refused}
use Rattle.ft_record.proofs.recent.Recent.sub.Goals as goal

pub invariant_of-self-in_err-child : goal.invariant_of-self-in_err-child
invariant_of-self-in_err-child c =
    let i = c.self.inside in
    recent-refused i.core.state c.sub.new.self.state (request.Sub c.args.txn) c.in_err-child.field-0.0 i.past (forgotten_by i.since) c.self.invariant c.in_err-child.ensures c.reserve.new.self
    (ap (λ (q : Recording). q.events) c.reserve.ensures.same) (ap (λ (q : Recording). q.spare) c.reserve.ensures.same)

pub invariant_of-self-2 : goal.invariant_of-self-2
invariant_of-self-2 c =
    let i = c.self.inside in
    recent-begun call_laws lock_laws i.core.state (Some c.args.txn) c.in_ok-child.child c.sub.new.self.state i.past (forgotten_by i.since) c.self.invariant c.in_ok-child.ensures c.add.new.self
    (ap (λ (q : Recording). q.events) c.add.ensures ∙ ap (λ (q : Recording). q.events ++ event.Begin c.in_ok-child.child (Some c.args.txn) ∷ []) c.reserve.ensures.same) (ap (λ (q : Recording). q.spare) c.add.ensures ∙ ap (λ (q : Recording). q.spare + 1) c.reserve.ensures.same)
