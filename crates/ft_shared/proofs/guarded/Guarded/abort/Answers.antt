use Rattle.std.proofs.Common.{sym, refl, subst, ◌∙◌}
use Rattle.ft_core.specs.declared.request.Request.TheVariants.{Abort}
use Rattle.ft_core.specs.declared.request.Answer.TheVariants.{Aborted}
use Rattle.ft_core.specs.States.{State}
use Rattle.ft_core.specs.Steps.{answer_with}
use Rattle.ft_shared.specs.Publishing.{IsBehind}
use Rattle.ft_shared.proofs.Staying.{still}
use Rattle.ft_shared.proofs.guarded.Guarded.abort.Goals as goal

pub invariant_of-self : goal.invariant_of-self
invariant_of-self g c =
    let old = (g.C.Shareable.stored c.self.inside.core).state in
    let new = (g.C.Shareable.stored c.abort.new.self).state in
    still g.J.Sharing.origin old new (Abort c.args.txn) (answer_with Aborted c.abort.result) (g.C.Shareable.forgotten c.self.inside.core) (g.C.Shareable.forgotten c.abort.new.self) c.self.inside.publisher c.self.inside.victims.items
    refl c.abort.ensures.step.0 c.abort.ensures.forgotten c.self.invariant

pub invariant_of-self-2 : goal.invariant_of-self-2
invariant_of-self-2 g c =
    let origin = g.J.Sharing.origin in
    let gone = g.C.Shareable.forgotten c.sweep.new.self in
    let old = (g.C.Shareable.stored c.self.inside.core).state in
    let new = (g.C.Shareable.stored c.abort.new.self).state in
    subst (λ (s : State). IsBehind origin s gone c.self.inside.publisher c.self.inside.victims.items) (sym c.sweep.ensures.state)
    (still origin old new (Abort c.args.txn) (answer_with Aborted c.abort.result) (g.C.Shareable.forgotten c.self.inside.core) gone c.self.inside.publisher c.self.inside.victims.items
    refl c.abort.ensures.step.0 (c.sweep.ensures.forgotten ∙ c.abort.ensures.forgotten) c.self.invariant)
