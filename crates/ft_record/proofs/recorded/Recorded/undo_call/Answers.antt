use Rattle.std.proofs.Common.{refl, sym, subst}
use Rattle.ft_core.specs.declared.request.Request.TheVariants as request
use Rattle.ft_core.specs.declared.request.Answer.TheVariants.{Undone}
use Rattle.ft_core.specs.States.{StoredState}
use Rattle.ft_core.specs.Promises.{IsJustMade}
use Rattle.ft_core.specs.Steps.{answer_with}
use Rattle.ft_record.proofs.Moving.{goes-on}
use Rattle.ft_record.proofs.Records.{still-recorded}
use Rattle.ft_record.proofs.recorded.Recorded.undo_call.Goals as goal

pub invariant_of-self : goal.invariant_of-self
invariant_of-self c =
    let i = c.self.inside in
    let new = c.undo_call.new.self in
    still-recorded i.recent new i.base c.self.invariant (goes-on i.recent.core.state new.core.state (request.Undo c.args.txn) (answer_with Undone c.undo_call.result) refl c.undo_call.ensures.step).base c.undo_call.ensures.forgotten

pub returns-clause-just_made : goal.returns-clause-just_made
returns-clause-just_made c = λ before k just. c.undo_call.ensures.just_made before k (subst (λ (v : StoredState). IsJustMade before v.state c.args.txn k) (sym c.self.view_is) just)
