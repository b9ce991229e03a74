use Rattle.std.proofs.Common.{refl, subst, ap}
use Rattle.ft_core.specs.declared.request.Request.TheVariants.{Undo}
use Rattle.ft_core.specs.declared.request.Answer.TheVariants.{Undone}
use Rattle.ft_core.specs.States.{StoredState}
use Rattle.ft_core.specs.Steps.{answer_with}
use Rattle.ft_shared.specs.Guarded.{IsUndone}
use Rattle.ft_shared.specs.Publishing.{Backed}
use Rattle.ft_shared.proofs.Staying.{still}
use Rattle.ft_shared.proofs.guarded.Guarded.undo_call.Goals as goal

pub invariant_of-self : goal.invariant_of-self
invariant_of-self g c =
    let old = (g.C.Shareable.stored c.self.inside.core).state in
    let new = (g.C.Shareable.stored c.undo_call.new.self).state in
    still g.J.Sharing.origin old new (Undo c.args.txn) (answer_with Undone c.undo_call.result) (g.C.Shareable.forgotten c.self.inside.core) (g.C.Shareable.forgotten c.undo_call.new.self) c.self.inside.publisher c.self.inside.victims.items
    refl c.undo_call.ensures.step.0 c.undo_call.ensures.forgotten c.self.invariant

pub returns-clause-step : goal.returns-clause-step
returns-clause-step g c =
    subst (λ (k : StoredState). IsUndone k.state c.args.txn (answer_with Undone c.undo_call.result) (g.C.Shareable.stored c.undo_call.new.self).state) (ap (λ (b : Backed). b.core) c.self.view_is) c.undo_call.ensures.step
