use Rattle.std.proofs.Common.{ap, ◌∙◌}
use Rattle.ft_core.specs.States.{State, StoredState}
use Rattle.ft_shared.proofs.shareable.RecentShareable.base.Goals as goal

pub returns-clause-bare : goal.returns-clause-bare
returns-clause-bare c =
    let same = ap (λ (core : StoredState). core.state.events) c.core.ensures in
    c.tree.ensures.bare (same ∙ ap (λ (s : State). s.events) c.requires)
