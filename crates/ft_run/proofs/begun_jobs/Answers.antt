use Rattle.std.proofs.Common.{sym, subst}
use Rattle.ft_core.specs.Living.{NoneIsLive}
use Rattle.ft_core.specs.States.{State}
use Rattle.ft_run.proofs.begun_jobs.Goals as goal

pub returns-in-Ok : goal.returns-in-Ok
returns-in-Ok c = subst (λ (s : State). NoneIsLive s) (sym c.in-Ok.ensures) c.in_ok-core.ensures.none_live
