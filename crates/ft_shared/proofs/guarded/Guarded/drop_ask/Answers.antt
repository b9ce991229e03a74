use Rattle.std.proofs.Common.{refl}
use Rattle.ft_core.specs.declared.request.Request.TheVariants.{Drop}
use Rattle.ft_core.specs.declared.request.Answer.TheVariants.{Dropped}
use Rattle.ft_core.specs.Steps.{answer_with}
use Rattle.ft_shared.proofs.Staying.{still}
use Rattle.ft_shared.proofs.guarded.Guarded.drop_ask.Goals as goal

pub invariant_of-self : goal.invariant_of-self
invariant_of-self g c =
    let old = (g.C.Shareable.stored c.self.inside.core).state in
    let new = (g.C.Shareable.stored c.drop_ask.new.self).state in
    still g.J.Sharing.origin old new (Drop c.args.txn) (answer_with (λ done. Dropped) c.drop_ask.result) (g.C.Shareable.forgotten c.self.inside.core) (g.C.Shareable.forgotten c.drop_ask.new.self) c.self.inside.publisher c.self.inside.victims.items
    refl c.drop_ask.ensures.step c.drop_ask.ensures.forgotten c.self.invariant
