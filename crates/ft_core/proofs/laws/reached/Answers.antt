use Rattle.std.proofs.Common.{subst}
use Rattle.ft_core.specs.Journals.{state_of}
use Rattle.ft_core.specs.Reached.{IsReached}
use Rattle.ft_core.specs.States.{StoredState}
use Rattle.ft_core.proofs.Reaching.{is-reached}
use Rattle.ft_core.proofs.laws.reached.Goals as goal

pub returns : goal.returns
returns c =
    let i = c.core.inside in
    subst (λ (v : StoredState). IsReached v) c.core.view_is (is-reached (state_of i.parts.forest i.journal) i.parts i.journal c.core.invariant.0)
