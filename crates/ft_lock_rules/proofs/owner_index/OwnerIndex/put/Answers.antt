use Rattle.std.proofs.Common.{Some, cond, ◌==◌, ap, ◌∙◌}
use Rattle.std.specs.FinMap as finite
use Rattle.ft_base.proofs.Views.{at, view-put}
use Rattle.ft_lock_rules.specs.declared.owner_index.Inside.{Inside}
use Rattle.ft_lock_rules.specs.CellLocks.{Indexed}
use Rattle.ft_lock_rules.proofs.owner_index.OwnerIndex.put.Goals as goal

pub returns-clause-places : goal.returns-clause-places
returns-clause-places c =
    let seen = ap (λ (b : Inside). finite.from_entries b.places.entries) c.deref_mut.ensures.value ∙ ap (λ (x : Indexed). x.places) c.self.view_is in
    c.mark.ensures.places
    ∙ view-put _ _ _ c.args.owner c.args.place seen (λ q.
    c.in_ok-insert.ensures.updates.0 q
    ∙ ap (cond (c.args.owner == q) (Some c.args.place)) (ap (λ (b : Inside). at b.places.entries q) c.deref_mut-2.ensures.value ∙ c.in_ok-reserve.ensures.entries.2 q))
