use Rattle.std.proofs.Common.{refl}
use Rattle.ft_core.specs.declared.request.Request.TheVariants as request
use Rattle.ft_core.specs.declared.request.Answer.TheVariants.{Txn}
use Rattle.ft_core.specs.Steps.{answer_with}
use Rattle.ft_record.proofs.Moving.{goes-on}
use Rattle.ft_record.proofs.Records.{still-recorded}
use Rattle.ft_record.proofs.recorded.Recorded.sub.Goals as goal

pub invariant_of-self : goal.invariant_of-self
invariant_of-self c =
    let i = c.self.inside in
    let new = c.sub.new.self in
    still-recorded i.recent new i.base c.self.invariant (goes-on i.recent.core.state new.core.state (request.Sub c.args.txn) (answer_with Txn c.sub.result) refl c.sub.ensures.step).base c.sub.ensures.forgotten
