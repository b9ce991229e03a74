use Rattle.std.proofs.Common.{◌∙◌, ◌∷◌, sym, ap, Some}
use Rattle.std.specs.Option.{option_flatten}
use Rattle.std.specs.FinMap as finite
use Rattle.ft_owned_lists.specs.OwnedLists.{list_in}
use Rattle.ft_owned_lists.proofs.ChainMoves.{push-made}
use Rattle.ft_owned_lists.proofs.ChainCalls.{open-ends, flat-open, grown, node-up, made-in}
use Rattle.ft_owned_lists.proofs.owned_lists.OwnedLists.push_front.Goals as goal

pub invariant_of-self : goal.invariant_of-self
invariant_of-self g c = (grown c.self.inside.nodes c.self.inside.ends c.self.invariant c.args.self.now c.self.view_is c.insert.new.self _ c.in-Err.ensures.err).sound

pub returns-in-Err-clause-err : goal.returns-in-Err-clause-err
returns-in-Err-clause-err g c = (grown c.self.inside.nodes c.self.inside.ends c.self.invariant c.args.self.now c.self.view_is c.insert.new.self _ c.in-Err.ensures.err).is

pub set-requires : goal.set-requires
set-requires g c = open-ends c.self.inside.nodes c.self.inside.ends c.self.invariant c.args.self.now c.self.view_is c.args.owner c.requires

pub invariant_of-self-2 : goal.invariant_of-self-2
invariant_of-self-2 g c =
    let is_open = open-ends c.self.inside.nodes c.self.inside.ends c.self.invariant c.args.self.now c.self.view_is c.args.owner c.requires in
    let there = flat-open _ is_open ∙ ap Some (sym (c.flatten-ends.ensures ∙ ap option_flatten c.get.ensures)) in
    let made = push-made c.self.inside.nodes c.insert.new.self c.self.inside.ends c.self.invariant.0 c.self.invariant.1 c.args.owner c.in-Ok.key c.args.value c.flatten-ends.result _ there c.in-Ok.ensures.was_vacant
    (node-up _ _ _ _ _ _ c.first_key-next.ensures c.in-Ok.ensures.updates) (ap (λ n. Some (record { first = c.in-Ok.key; last = n })) c.last_key_or-last.ensures) in
    (made-in _ _ _ _ c.set.ensures made).sound

pub returns-clause-ok : goal.returns-clause-ok
returns-clause-ok g c =
    let is_open = open-ends c.self.inside.nodes c.self.inside.ends c.self.invariant c.args.self.now c.self.view_is c.args.owner c.requires in
    let there = flat-open _ is_open ∙ ap Some (sym (c.flatten-ends.ensures ∙ ap option_flatten c.get.ensures)) in
    let made = push-made c.self.inside.nodes c.insert.new.self c.self.inside.ends c.self.invariant.0 c.self.invariant.1 c.args.owner c.in-Ok.key c.args.value c.flatten-ends.result _ there c.in-Ok.ensures.was_vacant
    (node-up _ _ _ _ _ _ c.first_key-next.ensures c.in-Ok.ensures.updates) (ap (λ n. Some (record { first = c.in-Ok.key; last = n })) c.last_key_or-last.ensures) in
    (made-in _ _ _ _ c.set.ensures made).is ∙ ap (λ m. finite.insert m c.args.owner (c.args.value ∷ list_in m c.args.owner)) c.self.view_is
