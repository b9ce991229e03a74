use Rattle.std.proofs.Common.{◌≡◌, ◌∙◌, All, inr, refl, rules, sym, ap, subst}
use Rattle.ft_core.specs.States.{StoredState}
use Rattle.ft_serial.specs.Serials.{committed_calls}
use Rattle.ft_shared.specs.Guarded.{IsOfCoreFrom}
use Rattle.ft_shared.specs.Origins.{IsWhole}
use Rattle.ft_shared.specs.Victims.{WasVictim}
use Rattle.ft_shared.proofs.guarded.Guarded.publish.Goals as goal
use Rattle.ft_shared.proofs.guarded.Guarded.publish.Goals.{then-forget, else-forget}

pub publish-requires-clause-whole : goal.publish-requires-clause-whole
publish-requires-clause-whole g c =
    let from = g.J.Sharing.origin.from in
    let core = g.C.Shareable.stored c.self.inside.core in
    let is = c.self.invariant.from in
    let whole : IsWhole from (committed_calls core.state) = inr (record { state = core.state; cells = is.of_core.0 }, is.of_core.1, is.goes_on, refl) in
    subst (λ (k : StoredState). IsWhole from (committed_calls k.state)) (sym c.core.ensures) whole

pub invariant_of-self-2 : goal.invariant_of-self-2
invariant_of-self-2 g c =
    let same : g.C.Shareable.stored c.if-forget.self-inside.core ≡ g.C.Shareable.stored c.self.inside.core = elim c.if-forget.branch [
      | then-forget w ↦ ap (λ s. g.C.Shareable.stored s.core) w.self-inside-is ∙ c.forget.ensures.core
      | else-forget w ↦ ap (λ s. g.C.Shareable.stored s.core) w.self-inside-is ∙ c.forget.ensures.core
    ] in
    let old = (g.C.Shareable.stored c.self.inside.core).state in
    let kept : c.if-forget.self-inside.victims.items ≡ c.self.inside.victims.items = search rules in
    record {
      from = subst (λ (k : StoredState). IsOfCoreFrom g.J.Sharing.origin.from k.state) (sym same) c.self.invariant.from;
      views = search rules;
      victims_are = subst (λ (k : StoredState). All (WasVictim k.state) c.if-forget.self-inside.victims.items) (sym same) (subst (All (WasVictim old)) (sym kept) c.self.invariant.victims_are);
    }
