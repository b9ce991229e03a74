use Rattle.std.proofs.Common.{◌≡◌, ◌∙◌, Ok, ap, sym, false}
use Rattle.std.specs.FinMap as finite
use Rattle.ft_owned_lists.proofs.ChainCalls.{opened-sound, opened-is, open-is}
use Rattle.ft_owned_lists.proofs.owned_lists.OwnedLists.open_zero.Goals as goal

pub invariant_of-self : goal.invariant_of-self
invariant_of-self g c =
    let new : finite.contains_key c.self.inside.ends 0 ≡ false =
    sym (open-is c.self.inside.nodes c.self.inside.ends c.self.invariant 0) ∙ ap (λ m. finite.contains_key m 0) c.self.view_is ∙ c.requires in
    opened-sound c.self.inside.nodes c.self.inside.ends c.self.invariant {A = Unit {0}} {F = Unit {0}} 0 (Ok tt) c.set_zero.new.self new c.set_zero.ensures tt

pub returns : goal.returns
returns g c =
    let new : finite.contains_key c.self.inside.ends 0 ≡ false =
    sym (open-is c.self.inside.nodes c.self.inside.ends c.self.invariant 0) ∙ ap (λ m. finite.contains_key m 0) c.self.view_is ∙ c.requires in
    opened-is c.self.inside.nodes c.self.inside.ends c.self.invariant 0 c.set_zero.new.self new c.args.self.now c.self.view_is c.set_zero.ensures
