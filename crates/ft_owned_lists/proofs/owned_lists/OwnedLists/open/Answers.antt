use Rattle.std.proofs.Common.{◌≡◌, ◌∙◌, ap, sym, false}
use Rattle.std.specs.FinMap as finite
use Rattle.ft_owned_lists.proofs.ChainCalls.{opened-sound, opened-is, put-list, open-is}
use Rattle.ft_owned_lists.proofs.owned_lists.OwnedLists.open.Goals as goal

pub returns-then-is_open-clause-ok : goal.returns-then-is_open-clause-ok
returns-then-is_open-clause-ok g c = sym (put-list c.args.self.now c.args.owner (sym c.is_open.ensures ∙ c.if-is_open.true))

-- the owner is not open
pub invariant_of-self : goal.invariant_of-self
invariant_of-self g c =
    let new : finite.contains_key c.self.inside.ends c.args.owner ≡ false =
    sym (open-is c.self.inside.nodes c.self.inside.ends c.self.invariant c.args.owner) ∙ ap (λ m. finite.contains_key m c.args.owner) c.self.view_is ∙ sym c.is_open.ensures ∙ c.if-is_open.false in
    opened-sound c.self.inside.nodes c.self.inside.ends c.self.invariant c.args.owner c.insert.result c.insert.new.self new c.insert.ensures.ok c.insert.ensures.err

pub invariant_of-self-2 : goal.invariant_of-self-2
invariant_of-self-2 g c =
    let new : finite.contains_key c.self.inside.ends c.args.owner ≡ false =
    sym (open-is c.self.inside.nodes c.self.inside.ends c.self.invariant c.args.owner) ∙ ap (λ m. finite.contains_key m c.args.owner) c.self.view_is ∙ sym c.is_open.ensures ∙ c.if-is_open.false in
    opened-sound c.self.inside.nodes c.self.inside.ends c.self.invariant c.args.owner c.insert.result c.insert.new.self new c.insert.ensures.ok c.insert.ensures.err

pub returns-clause-ok : goal.returns-clause-ok
returns-clause-ok g c =
    let new : finite.contains_key c.self.inside.ends c.args.owner ≡ false =
    sym (open-is c.self.inside.nodes c.self.inside.ends c.self.invariant c.args.owner) ∙ ap (λ m. finite.contains_key m c.args.owner) c.self.view_is ∙ sym c.is_open.ensures ∙ c.if-is_open.false in
    opened-is c.self.inside.nodes c.self.inside.ends c.self.invariant c.args.owner c.insert.new.self new c.args.self.now c.self.view_is c.in_ok-insert.ensures.ok
