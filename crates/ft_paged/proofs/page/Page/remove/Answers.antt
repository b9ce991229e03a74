use Rattle.std.proofs.Common.{None, IsSome, inr, set, arith, ap, sym, subst, ◌∙◌}
use Rattle.std.proofs.lemmas.List.{length-set}
use Rattle.ft_paged.proofs.Pages.{all-set, all-nothing, has-value, has-places, valued-taken}
use Rattle.ft_paged.proofs.Places.{inside}
use Rattle.ft_paged.proofs.page.Page.remove.Goals as goal

pub index_mut-requires : goal.index_mut-requires
index_mut-requires g c = let within = inside c.self.inside.places.items c.args.place (has-value c.self.inside.places.items c.args.self.now c.args.place c.self.view_is (subst IsSome c.get.ensures c.if-is_none.ensures)) in omega arith

pub overflow_sub-self : goal.overflow_sub-self
overflow_sub-self g c =
    let some = has-value c.self.inside.places.items c.args.self.now c.args.place c.self.view_is (subst IsSome c.get.ensures c.if-is_none.ensures) in
    let less = valued-taken c.self.inside.places.items c.args.place some in let counted = c.self.invariant.counted in omega arith

pub invariant_of-self : goal.invariant_of-self
invariant_of-self g c =
    let some = has-value c.self.inside.places.items c.args.self.now c.args.place c.self.view_is (subst IsSome c.get.ensures c.if-is_none.ensures) in
    let less = valued-taken c.self.inside.places.items c.args.place some in let counted = c.self.invariant.counted in
    record {
      whole = inr (length-set c.self.inside.places.items c.args.place None ∙ has-places c.self.inside.places.items c.args.place c.self.invariant.whole some);
      counted = omega arith;
    }

pub free-requires-clause-places : goal.free-requires-clause-places
free-requires-clause-places g c =
    let some = has-value c.self.inside.places.items c.args.self.now c.args.place c.self.view_is (subst IsSome c.get.ensures c.if-is_none.ensures) in
    let less = valued-taken c.self.inside.places.items c.args.place some in let counted = c.self.invariant.counted in let none = c.if-self-eq0.true in
    all-nothing (set c.self.inside.places.items c.args.place None) (inr (length-set c.self.inside.places.items c.args.place None ∙ has-places c.self.inside.places.items c.args.place c.self.invariant.whole some)) (omega arith)

pub invariant_of-self-else-self-eq0 : goal.invariant_of-self-else-self-eq0
invariant_of-self-else-self-eq0 g c =
    let some = has-value c.self.inside.places.items c.args.self.now c.args.place c.self.view_is (subst IsSome c.get.ensures c.if-is_none.ensures) in
    let less = valued-taken c.self.inside.places.items c.args.place some in let counted = c.self.invariant.counted in
    record {
      whole = inr (length-set c.self.inside.places.items c.args.place None ∙ has-places c.self.inside.places.items c.args.place c.self.invariant.whole some);
      counted = omega arith;
    }

pub returns-then-self-eq0-clause-after : goal.returns-then-self-eq0-clause-after
returns-then-self-eq0-clause-after g c =
    let some = has-value c.self.inside.places.items c.args.self.now c.args.place c.self.view_is (subst IsSome c.get.ensures c.if-is_none.ensures) in
    let less = valued-taken c.self.inside.places.items c.args.place some in let counted = c.self.invariant.counted in let none = c.if-self-eq0.true in
    let long = has-places c.self.inside.places.items c.args.place c.self.invariant.whole some in
    c.free.ensures.same ∙ sym (all-nothing (set c.self.inside.places.items c.args.place None) (inr (length-set c.self.inside.places.items c.args.place None ∙ long)) (omega arith))
    ∙ all-set c.self.inside.places.items c.args.place None long ∙ ap (λ xs. set xs c.args.place None) c.self.view_is
