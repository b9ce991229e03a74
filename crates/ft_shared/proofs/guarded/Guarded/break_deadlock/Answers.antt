use Rattle.std.proofs.Common.{◌≡◌, ◌∙◌, ℕ, List, Option, Some, MatchOption, is_ok, refl, sym, subst}
use Rattle.ft_core.specs.declared.request.Request.TheVariants.{Abort}
use Rattle.ft_core.specs.declared.request.Answer.TheVariants.{Aborted}
use Rattle.ft_core.specs.States.{State, StoredState}
use Rattle.ft_core.specs.Steps.{answer_with}
use Rattle.ft_waits.specs.Cycles.{HasNoDeadlock}
use Rattle.ft_shared.specs.Publishing.{IsBehind}
use Rattle.ft_shared.specs.Victims.{IsBrokenBy, IsVictimOf}
use Rattle.ft_shared.proofs.Noting.{still-noted}
use Rattle.ft_shared.proofs.Staying.{still}
use Rattle.ft_shared.proofs.guarded.Guarded.break_deadlock.Goals as goal

-- the abort was refused
pub invariant_of-self-in_err-abort : goal.invariant_of-self-in_err-abort
invariant_of-self-in_err-abort g c =
    let origin = g.J.Sharing.origin in
    let old = (g.C.Shareable.stored c.self.inside.core).state in
    let new = (g.C.Shareable.stored c.abort.new.self).state in
    let gone = g.C.Shareable.forgotten c.abort.new.self in
    subst (λ (victims : List ℕ). IsBehind origin new gone c.self.inside.publisher victims) (sym c.try_reserve.ensures.items)
    (still origin old new (Abort c.in-Some.victim) (answer_with Aborted c.abort.result) (g.C.Shareable.forgotten c.self.inside.core) gone c.self.inside.publisher c.self.inside.victims.items
    refl c.abort.ensures.step.0 c.abort.ensures.forgotten c.self.invariant)

-- it was done, and noted
pub invariant_of-self-2 : goal.invariant_of-self-2
invariant_of-self-2 g c =
    let origin = g.J.Sharing.origin in
    let core = g.C.Shareable.stored c.self.inside.core in
    let new = (g.C.Shareable.stored c.abort.new.self).state in
    let gone = g.C.Shareable.forgotten c.sweep.new.self in
    let victim = c.in-Some.victim in
    let found : MatchOption c.in_ok-victim.field-0 (HasNoDeadlock c.core.result.now.state) (IsVictimOf c.core.result.now.state) = c.in_ok-victim.ensures in
    let of_core : IsVictimOf c.core.result.now.state victim = subst (λ (o : Option ℕ). MatchOption o (HasNoDeadlock c.core.result.now.state) (IsVictimOf c.core.result.now.state)) c.in-Some.is found in
    let chosen : IsVictimOf core.state victim = subst (λ (k : StoredState). IsVictimOf k.state victim) c.core.ensures of_core in
    let broken : IsBrokenBy victim core.state new = record { victim = chosen; undone = c.in_ok-abort.field-0; aborted = c.in_ok-abort.ensures.step.0 } in
    subst (λ (s : State). IsBehind origin s gone c.self.inside.publisher c.push.new.self.items) (sym c.sweep.ensures.state)
    (still-noted origin core.state new (g.C.Shareable.forgotten c.self.inside.core) gone c.self.inside.publisher c.try_reserve.new.self.items c.push.new.self.items (is_ok c.push.result) victim
    broken (c.sweep.ensures.forgotten ∙ c.abort.ensures.forgotten) c.push.ensures.items
    (subst (λ (victims : List ℕ). IsBehind origin core.state (g.C.Shareable.forgotten c.self.inside.core) c.self.inside.publisher victims) (sym c.try_reserve.ensures.items) c.self.invariant))
