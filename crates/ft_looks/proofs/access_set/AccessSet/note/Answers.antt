use Rattle.std.proofs.Common.{◌≡◌, true, ◌++◌, ◌∷◌, [], ap, ◌∙◌, rules}
use Rattle.std.specs.Prelude.{slice_set}
use Rattle.std.specs.FinMap as finite
use Rattle.ft_posix.proofs.Placing.{access, at-below}
use Rattle.ft_looks.proofs.Noted.{in_order-said, said-in_order, set-noted, push-noted}
use Rattle.ft_looks.proofs.access_set.AccessSet.note.Goals as goal

pub index_mut-requires : goal.index_mut-requires
index_mut-requires g c = at-below (g.T.Touch.cell c.args.touched) _ _ _ _ (record { seen_is = c.as_slice.ensures.value; place = c.place_of-at.ensures.place; noted = c.place_of-at.ensures.noted }) _ c.as_slice.ensures.len c.if-is_noted.true

pub invariant_of-self-then-is_noted : goal.invariant_of-self-then-is_noted
invariant_of-self-then-is_noted g c =
    let said : c.self.inside.is_in_order ≡ true = search rules in
    let order = in_order-said _ c.self.inside.list.items said c.self.invariant in
    said-in_order c.self.inside.is_in_order (slice_set c.self.inside.list.items c.place_of-at.result.0 (access c.index_mut.result.now.cell c.args.mode)) (set-noted (g.T.Touch.cell c.args.touched) c.args.mode _ c.self.inside.list.items _ _ _ (record { seen_is = c.as_slice.ensures.value; place = c.place_of-at.ensures.place; noted = c.place_of-at.ensures.noted }) order c.self.view_is c.if-is_noted.true c.index_mut.result.now _ c.index_mut.ensures.value).0

pub returns-then-is_noted-clause-noted : goal.returns-then-is_noted-clause-noted
returns-then-is_noted-clause-noted g c =
    let said : c.self.inside.is_in_order ≡ true = search rules in
    let order = in_order-said _ c.self.inside.list.items said c.self.invariant in
    (set-noted (g.T.Touch.cell c.args.touched) c.args.mode _ c.self.inside.list.items _ _ _ (record { seen_is = c.as_slice.ensures.value; place = c.place_of-at.ensures.place; noted = c.place_of-at.ensures.noted }) order c.self.view_is c.if-is_noted.true c.index_mut.result.now _ c.index_mut.ensures.value).1

pub returns-then-not-self-clause-noted : goal.returns-then-not-self-clause-noted
returns-then-not-self-clause-noted g c =
    push-noted finite.empty (g.T.Touch.cell c.args.touched) c.args.mode c.self.inside.list.items c.push.new.self.items
    (c.in_ok-push.ensures.items ∙ ap (λ cell. c.self.inside.list.items ++ access cell c.args.mode ∷ []) c.in_ok-cell.ensures)
    ∙ ap (λ m. finite.insert m (g.T.Touch.cell c.args.touched) c.args.mode) c.self.view_is
