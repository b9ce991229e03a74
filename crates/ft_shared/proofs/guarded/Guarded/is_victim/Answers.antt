use Rattle.std.proofs.Common.{◌≡◌, ◌∙◌, ℕ, List, ap, subst, sym}
use Rattle.ft_shared.specs.Publishing.{Backed}
use Rattle.ft_shared.specs.Victims.{WasVictim, is_member}
use Rattle.ft_shared.proofs.Staying.{victim-of}
use Rattle.ft_shared.proofs.guarded.Guarded.is_victim.Goals as goal

pub returns-clause-victim : goal.returns-clause-victim
returns-clause-victim g c = λ is.
    let found : c.is_member.result ≡ is_member c.self.inside.victims.items c.args.txn = c.is_member.ensures ∙ ap (λ (victims : List ℕ). is_member victims c.args.txn) c.as_slice.ensures.value in
    subst (λ (b : Backed). WasVictim b.core.state c.args.txn) c.self.view_is
    (victim-of (g.C.Shareable.stored c.self.inside.core).state c.self.inside.victims.items c.args.txn c.self.invariant.victims_are (sym found ∙ is))
