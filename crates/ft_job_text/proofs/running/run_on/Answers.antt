use denote.Param.Send.{sendable}
use Rattle.std.proofs.Common.{IfOk, ap, subst, sym}
use Rattle.std.proofs.Crossing.{crosses}
use Rattle.ft_core.specs.States.{State}
use Rattle.ft_record.specs.Going.{GoesOn}
use Rattle.ft_shared.specs.Origins.{Origin}
use Rattle.ft_shared.proofs.Crossing.{Shared-sync}
use Rattle.ft_job_text.proofs.running.run_on.Goals as goal

pub run_jobs_shown-requires-sync-M : goal.run_jobs_shown-requires-sync-M
run_jobs_shown-requires-sync-M g c κs within = search (Shared-sync, crosses, sendable) depth 40

pub unreachable-requires : goal.unreachable-requires
unreachable-requires g c = c.requires.none_live c.in-Err.ensures.refused.2

pub returns-clause-core : goal.returns-clause-core
returns-clause-core g c =
    let same = ap (λ (o : Origin). o.from) c.requires.named in
    subst (λ (s : State). IfOk c.run_jobs_shown.result (λ outcome. GoesOn s outcome.core.state)) (sym same) c.run_jobs_shown.ensures.core
