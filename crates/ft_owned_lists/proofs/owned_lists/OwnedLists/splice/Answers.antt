use Rattle.std.proofs.Common.{◌∙◌, sym, ap, subst, refl, Some, None, IsSome}
use Rattle.std.specs.Option.{option_flatten}
use Rattle.std.specs.FinMap as finite
use Rattle.ft_owned_lists.specs.OwnedLists.{spliced}
use Rattle.ft_owned_lists.specs.Linked.{AllEnds}
use Rattle.ft_owned_lists.proofs.ChainMoves.{splice-made, there-by}
use Rattle.ft_owned_lists.proofs.ChainCalls.{flat-some, flat-open, flat-or, open-still, next-up, empty-list, nothing-spliced, made-in}
use Rattle.ft_owned_lists.proofs.owned_lists.OwnedLists.splice.Goals as goal

pub returns-in_default : goal.returns-in_default
returns-in_default g c =
    let none = sym (flat-or (finite.get c.self.inside.ends c.args.source)) ∙ sym (c.flatten.ensures ∙ ap option_flatten c.get.ensures) ∙ c.in_default.is in
    nothing-spliced c.args.self.now c.args.source c.args.target c.requires.source_open c.requires.target_open (empty-list c.self.inside.nodes c.self.inside.ends c.self.invariant c.args.self.now c.self.view_is c.args.source _ refl none)

pub set-requires-2 : goal.set-requires-2
set-requires-2 g c = subst (λ (e : AllEnds). IsSome (finite.get e c.args.target)) (sym c.set.ensures)
    (open-still c.self.inside.nodes c.self.inside.ends c.self.invariant c.args.self.now c.self.view_is c.args.source None c.args.target c.requires.apart c.requires.target_open)

pub set_next-requires : goal.set_next-requires
set_next-requires g c =
    let there = flat-some _ _ (sym (c.flatten.ensures ∙ ap option_flatten c.get.ensures) ∙ c.in-Some.is) in
    (there-by c.self.inside.nodes c.self.inside.nodes c.self.inside.ends c.self.invariant.0 c.self.invariant.1 c.args.source c.in-Some.front there).1

pub invariant_of-self : goal.invariant_of-self
invariant_of-self g c =
    let there = flat-some _ _ (sym (c.flatten.ensures ∙ ap option_flatten c.get.ensures) ∙ c.in-Some.is) in
    let is_open = subst (λ (e : AllEnds). IsSome (finite.get e c.args.target)) (sym c.set.ensures)
    (open-still c.self.inside.nodes c.self.inside.ends c.self.invariant c.args.self.now c.self.view_is c.args.source None c.args.target c.requires.apart c.requires.target_open) in
    let then = ap (λ (e : AllEnds). finite.get e c.args.target) (sym c.set.ensures) ∙ flat-open _ is_open ∙ ap Some (sym (c.flatten-ends.ensures ∙ ap option_flatten c.get-2.ensures)) in
    let made = splice-made c.self.inside.nodes c.set_next.new.nodes c.self.inside.ends c.self.invariant.0 c.self.invariant.1 c.args.source c.args.target c.requires.apart c.in-Some.front c.flatten-ends.result _ there then
    (next-up _ _ _ _ _ c.first_key-next.ensures c.set_next.ensures.changed) (ap (λ n. Some (record { first = c.in-Some.front.first; last = n })) c.last_key_or-last.ensures) in
    let after = c.set-2.ensures ∙ ap (λ (e : AllEnds). finite.insert e c.args.target (Some (record { first = c.in-Some.front.first; last = c.last_key_or-last.result }))) c.set.ensures in
    (made-in _ _ _ _ after made).sound

pub returns : goal.returns
returns g c =
    let there = flat-some _ _ (sym (c.flatten.ensures ∙ ap option_flatten c.get.ensures) ∙ c.in-Some.is) in
    let is_open = subst (λ (e : AllEnds). IsSome (finite.get e c.args.target)) (sym c.set.ensures)
    (open-still c.self.inside.nodes c.self.inside.ends c.self.invariant c.args.self.now c.self.view_is c.args.source None c.args.target c.requires.apart c.requires.target_open) in
    let then = ap (λ (e : AllEnds). finite.get e c.args.target) (sym c.set.ensures) ∙ flat-open _ is_open ∙ ap Some (sym (c.flatten-ends.ensures ∙ ap option_flatten c.get-2.ensures)) in
    let made = splice-made c.self.inside.nodes c.set_next.new.nodes c.self.inside.ends c.self.invariant.0 c.self.invariant.1 c.args.source c.args.target c.requires.apart c.in-Some.front c.flatten-ends.result _ there then
    (next-up _ _ _ _ _ c.first_key-next.ensures c.set_next.ensures.changed) (ap (λ n. Some (record { first = c.in-Some.front.first; last = n })) c.last_key_or-last.ensures) in
    let after = c.set-2.ensures ∙ ap (λ (e : AllEnds). finite.insert e c.args.target (Some (record { first = c.in-Some.front.first; last = c.last_key_or-last.result }))) c.set.ensures in
    (made-in _ _ _ _ after made).is ∙ ap (λ m. spliced m c.args.source c.args.target) c.self.view_is
