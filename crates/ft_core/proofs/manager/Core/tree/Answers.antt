use Rattle.std.proofs.Common.{◌≤◌, ap, subst, ◌∙◌}
use Rattle.ft_posix.proofs.PlainSound.{plain_soundness}
use Rattle.ft_forest.specs.declared.TheConstants.{LAST_NUMBER}
use Rattle.ft_core.specs.Journals.{IsBaseTree}
use Rattle.ft_core.specs.Promises.{IsHeadline}
use Rattle.ft_core.specs.Histories.{told}
use Rattle.ft_core.specs.States.{State}
use Rattle.ft_core.proofs.Gathered.{state-is}
use Rattle.ft_core.proofs.Known.{call_laws}
use Rattle.ft_core.proofs.Joining.{tree_is, replies_are, order_is, free}
use Rattle.ft_core.proofs.manager.Core.tree.Goals as goal

pub returns-clause-headline : goal.returns-clause-headline
returns-clause-headline c =
    let core = c.self.invariant.0 in
    subst (λ s. IsHeadline s c.self.inside.parts.tree) (state-is c.self.view_is)
    (record { tree = tree_is call_laws core.kept; replies = replies_are call_laws core.kept; order = order_is call_laws core.kept })

pub returns-clause-plain_sound : goal.returns-clause-plain_sound
returns-clause-plain_sound c = plain_soundness c.self.inside.parts.tree c.self.invariant.0.kept.sound

pub returns-clause-base : goal.returns-clause-base
returns-clause-base c =
    let core = c.self.invariant.0 in
    subst (λ s. IsBaseTree c.self.inside.parts.tree s.last_stamp) (state-is c.self.view_is) (record { sound = core.kept.sound; free = free call_laws core.kept })

pub returns-clause-last : goal.returns-clause-last
returns-clause-last c = subst (λ (s : State). s.last_stamp ≤ LAST_NUMBER) (state-is c.self.view_is) c.self.invariant.0.kept.started.within

pub returns-clause-bare : goal.returns-clause-bare
returns-clause-bare c = λ none. c.self.invariant.0.bare (ap told (ap (λ (s : State). s.events) (state-is c.self.view_is) ∙ none))
