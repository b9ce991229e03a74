use Rattle.std.proofs.Common.{Bool, ap, sym, subst, ◌∙◌}
use Rattle.std.specs.Prelude.{MatchBool}
use Rattle.ft_core.specs.Living.{SomeIsLive, NoneIsLive}
use Rattle.ft_core.specs.Journals.{state_of}
use Rattle.ft_core.specs.States.{State, has_live}
use Rattle.ft_core.proofs.Gathered.{state-is}
use Rattle.ft_core.proofs.Known.{call_laws, lock_laws}
use Rattle.ft_core.proofs.Checkpoints.{some-lives, lives}
use Rattle.ft_core.proofs.Children.{some-live, no-live, live_by_top}
use Rattle.ft_core.proofs.manager.Core.has_live.Goals as goal

pub returns-clause-found : goal.returns-clause-found
returns-clause-found c =
    let i = c.self.inside in
    let s : State = state_of i.parts.forest i.journal in
    subst (λ (q : State). MatchBool c.is_some.result (SomeIsLive q) (NoneIsLive q)) (state-is c.self.view_is)
    (subst (λ (b : Bool). MatchBool b (SomeIsLive s) (NoneIsLive s)) (sym c.is_some.ensures)
    (live_by_top (SomeIsLive s) i.parts.forest c.youngest_child.result c.youngest_child.ensures
    (λ x is. (x, some-live call_laws c.self.invariant.0 x is))
    (λ none now. no-live call_laws c.self.invariant.0 none now.0 now.1)))

pub returns-clause-listed : goal.returns-clause-listed
returns-clause-listed c =
    let i = c.self.inside in
    let s : State = state_of i.parts.forest i.journal in
    let same = state-is c.self.view_is in
    lives c.is_some.result s (some-lives call_laws lock_laws i.parts i.journal c.self.invariant.0) (subst (λ (q : State). MatchBool c.is_some.result (SomeIsLive q) (NoneIsLive q)) (sym same) (returns-clause-found c)) ∙ ap has_live same
