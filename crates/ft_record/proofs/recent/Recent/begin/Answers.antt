use Rattle.std.proofs.Common.{◌+◌, ◌∷◌, ◌++◌, [], None, ap, ◌∙◌}
use Rattle.ft_core.specs.declared.request.Event.TheVariants as event
use Rattle.ft_core.proofs.Known.{call_laws, lock_laws}
use Rattle.ft_record.specs.Recent.{forgotten_by}
use Rattle.ft_record.specs.Recording.{Recording}
use Rattle.ft_record.proofs.Records.{recent-begun}
use Rattle.ft_record.proofs.recent.Recent.begin.Goals as goal

pub invariant_of-self-2 : goal.invariant_of-self-2
invariant_of-self-2 c =
    let i = c.self.inside in
    recent-begun call_laws lock_laws i.core.state None c.in_ok-txn.txn c.begin.new.self.state i.past (forgotten_by i.since) c.self.invariant c.in_ok-txn.ensures c.add.new.self
    (ap (λ (q : Recording). q.events) c.add.ensures ∙ ap (λ (q : Recording). q.events ++ event.Begin c.in_ok-txn.txn None ∷ []) c.reserve.ensures.same) (ap (λ (q : Recording). q.spare) c.add.ensures ∙ ap (λ (q : Recording). q.spare + 1) c.reserve.ensures.same)
