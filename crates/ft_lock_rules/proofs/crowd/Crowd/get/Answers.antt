use Rattle.std.proofs.Common.{Some, get_or, sym, ap, ◌∙◌}
use Rattle.ft_lock_rules.proofs.HolderLists.{none_at, place_read, absent_read, got, blank}
use Rattle.ft_lock_rules.proofs.crowd.Crowd.get.Goals as goal

pub returns-in_err-place : goal.returns-in_err-place
returns-in_err-place c =
    c.from_residual.ensures
    ∙ sym (none_at c.args.self.now c.self.inside.list.items c.args.owner c.self.view_is (absent_read _ c.as_slice-list.result.now c.args.owner c.in_err-place.ensures.none c.as_slice-list.ensures))

pub returns : goal.returns
returns c =
    let at = place_read c.self.inside.list.items c.as_slice-list.result.now c.in_ok-place.place c.args.owner c.in_ok-place.ensures.some c.as_slice-list.ensures in
    ap (λ l. Some (get_or l c.in_ok-place.place blank).marks) c.as_slice-list.ensures
    ∙ sym (got c.args.self.now c.self.inside.list.items c.self.view_is c.self.invariant.0 c.in_ok-place.place c.args.owner at blank)
