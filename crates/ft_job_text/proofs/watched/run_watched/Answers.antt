use Rattle.std.proofs.Common.{List, All, ℕ, sym, ap, subst, Vec, Global}
use Rattle.std.proofs.lemmas.Result.{IfOk-weaker}
use Rattle.ft_core.specs.States.{State, StoredState}
use Rattle.ft_shared.specs.Victims.{WasVictim}
use Rattle.ft_job_text.proofs.watched.run_watched.Goals as goal

pub returns-clause-victims : goal.returns-clause-victims
returns-clause-victims g c = IfOk-weaker c.checked.result _ _
    (λ outcome same. subst (λ (s : State). All (WasVictim s) outcome.victims.items) (sym (ap (λ (core : StoredState). core.state) same.0))
    (subst (λ (victims : List ℕ). All (WasVictim c.into_parts-core.result.0.state) victims) (sym (ap (λ (victims : Vec ℕ Global). victims.items) same.1)) c.into_parts-core.ensures.victims))
    c.checked.ensures.same
