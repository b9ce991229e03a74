use Rattle.std.proofs.Common.{sym, refl, subst, ◌∙◌}
use Rattle.ft_core.specs.declared.request.Request.TheVariants.{Commit}
use Rattle.ft_core.specs.declared.request.Answer.TheVariants.{Committed}
use Rattle.ft_core.specs.States.{State}
use Rattle.ft_core.specs.Steps.{answer_with}
use Rattle.ft_shared.specs.Publishing.{IsBehind}
use Rattle.ft_shared.proofs.Staying.{still}
use Rattle.ft_shared.proofs.guarded.Guarded.commit.Goals as goal

pub invariant_of-self : goal.invariant_of-self
invariant_of-self g c =
    let old = (g.C.Shareable.stored c.self.inside.core).state in
    let new = (g.C.Shareable.stored c.commit.new.self).state in
    still g.J.Sharing.origin old new (Commit c.args.txn) (answer_with (λ done. Committed) c.commit.result) (g.C.Shareable.forgotten c.self.inside.core) (g.C.Shareable.forgotten c.commit.new.self) c.self.inside.publisher c.self.inside.victims.items
    refl c.commit.ensures.step c.commit.ensures.forgotten c.self.invariant

pub invariant_of-self-2 : goal.invariant_of-self-2
invariant_of-self-2 g c =
    let origin = g.J.Sharing.origin in
    let gone = g.C.Shareable.forgotten c.sweep.new.self in
    let old = (g.C.Shareable.stored c.self.inside.core).state in
    let new = (g.C.Shareable.stored c.commit.new.self).state in
    subst (λ (s : State). IsBehind origin s gone c.self.inside.publisher c.self.inside.victims.items) (sym c.sweep.ensures.state)
    (still origin old new (Commit c.args.txn) (answer_with (λ done. Committed) c.commit.result) (g.C.Shareable.forgotten c.self.inside.core) gone c.self.inside.publisher c.self.inside.victims.items
    refl c.commit.ensures.step (c.sweep.ensures.forgotten ∙ c.commit.ensures.forgotten) c.self.invariant)
