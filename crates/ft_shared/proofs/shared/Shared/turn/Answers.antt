use Rattle.std.proofs.Common.{subst}
use Rattle.ft_posix.specs.declared.call.Call.{Call}
use Rattle.ft_core.specs.declared.request.Request.TheVariants.{Ask}
use Rattle.ft_core.specs.Steps.{IsStep, exact_rule, answer_with, outcome_answer}
use Rattle.ft_shared.specs.Guarded.{InCoreFrom}
use Rattle.ft_shared.proofs.shared.Shared.turn.Goals as goal

pub returns-in-Ok : goal.returns-in-Ok
returns-in-Ok g c =
    record { some_core = subst (λ (call : Call). InCoreFrom g.J.Sharing.origin.from (λ old new. IsStep exact_rule old (Ask c.args.txn call) (answer_with outcome_answer c.ask.result) new)) c.in-Ok.ensures c.ask.ensures.some_core }
