use Rattle.std.proofs.Common.{refl}
use Rattle.ft_core.specs.declared.request.Request.TheVariants.{Ask}
use Rattle.ft_core.specs.Steps.{answer_with, outcome_answer}
use Rattle.ft_shared.proofs.Staying.{still}
use Rattle.ft_shared.proofs.guarded.Guarded.ask.Goals as goal

pub invariant_of-self : goal.invariant_of-self
invariant_of-self g c =
    let old = (g.C.Shareable.stored c.self.inside.core).state in
    let new = (g.C.Shareable.stored c.ask.new.self).state in
    still g.J.Sharing.origin old new (Ask c.args.txn c.args.call) (answer_with outcome_answer c.ask.result) (g.C.Shareable.forgotten c.self.inside.core) (g.C.Shareable.forgotten c.ask.new.self) c.self.inside.publisher c.self.inside.victims.items
    refl c.ask.ensures.step c.ask.ensures.forgotten c.self.invariant
