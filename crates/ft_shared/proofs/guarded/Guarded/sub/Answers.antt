use Rattle.std.proofs.Common.{refl}
use Rattle.ft_core.specs.declared.request.Request.TheVariants.{Sub}
use Rattle.ft_core.specs.declared.request.Answer.TheVariants.{Txn}
use Rattle.ft_core.specs.Steps.{answer_with}
use Rattle.ft_shared.proofs.Staying.{still}
use Rattle.ft_shared.proofs.guarded.Guarded.sub.Goals as goal

pub invariant_of-self : goal.invariant_of-self
invariant_of-self g c =
    let old = (g.C.Shareable.stored c.self.inside.core).state in
    let new = (g.C.Shareable.stored c.sub.new.self).state in
    still g.J.Sharing.origin old new (Sub c.args.parent) (answer_with Txn c.sub.result) (g.C.Shareable.forgotten c.self.inside.core) (g.C.Shareable.forgotten c.sub.new.self) c.self.inside.publisher c.self.inside.victims.items
    refl c.sub.ensures.step c.sub.ensures.forgotten c.self.invariant
