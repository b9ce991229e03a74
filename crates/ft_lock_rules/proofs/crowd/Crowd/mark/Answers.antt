use Rattle.std.proofs.Common.{sym, subst, get_or, ap, ◌≡◌, ◌∙◌}
use Rattle.std.specs.Option.{IfSome}
use Rattle.ft_lock_rules.specs.CellLocks.{IsPlaceOf}
use Rattle.ft_lock_rules.proofs.HolderLists.{none_at, nothing_marked, place_read, absent_read, apart-own, seen-own}
use Rattle.ft_lock_rules.proofs.crowd.Crowd.mark.Goals as goal

pub invariant_of-self : goal.invariant_of-self
invariant_of-self c =
    let at = place_read c.self.inside.list.items c.as_slice.result.now c.in-Some.place c.args.owner c.in-Some.ensures.some c.as_slice.ensures in
    let is = subst (λ r. IfSome r (λ x. x.now ≡ get_or c.self.inside.list.items c.in-Some.place x.now)) c.unwrap-holding.ensures c.get_mut.ensures.value in
    let own = ap (λ h. h.owner) is ∙ at.owned c.unwrap-holding.result.now in (
      apart-own c.args.self.now c.self.inside.list.items c.self.view_is c.self.invariant.0 c.in-Some.place c.args.owner at
          (record { owner = c.unwrap-holding.result.now.owner; marks = c.with-holding.result }) own,
      c.index_marks.ensures c.self.inside.list.items c.unwrap-holding.result.now.owner c.self.invariant.0 (subst (IsPlaceOf c.self.inside.list.items c.in-Some.place) (sym own) at) c.self.invariant.1,
    )

pub returns-in-Some : goal.returns-in-Some
returns-in-Some c =
    let at = place_read c.self.inside.list.items c.as_slice.result.now c.in-Some.place c.args.owner c.in-Some.ensures.some c.as_slice.ensures in
    let is = subst (λ r. IfSome r (λ x. x.now ≡ get_or c.self.inside.list.items c.in-Some.place x.now)) c.unwrap-holding.ensures c.get_mut.ensures.value in
    seen-own c.args.self.now c.self.inside.list.items c.self.view_is c.self.invariant.0 c.in-Some.place c.args.owner at
    c.unwrap-holding.result.now c.with-holding.result c.args.marks is c.with-holding.ensures

pub returns-in_default : goal.returns-in_default
returns-in_default c =
    nothing_marked c.args.self.now c.args.owner c.args.marks
    (none_at c.args.self.now c.self.inside.list.items c.args.owner c.self.view_is (absent_read _ c.as_slice.result.now c.args.owner c.in_default.ensures.none c.as_slice.ensures))
