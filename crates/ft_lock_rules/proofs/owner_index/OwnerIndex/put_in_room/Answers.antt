use Rattle.std.proofs.Common.{sym, ap, ◌∙◌}
use Rattle.std.specs.FinMap as finite
use Rattle.ft_base.proofs.Views.{view-put}
use Rattle.ft_lock_rules.specs.declared.owner_index.Inside.{Inside}
use Rattle.ft_lock_rules.specs.CellLocks.{Indexed}
use Rattle.ft_lock_rules.proofs.Cases.{ok_of}
use Rattle.ft_lock_rules.proofs.owner_index.OwnerIndex.put_in_room.Goals as goal

pub returns-clause-places : goal.returns-clause-places
returns-clause-places c = λ _.
    let seen = ap (λ (b : Inside). finite.from_entries b.places.entries) c.deref_mut.ensures.value ∙ ap (λ (x : Indexed). x.places) c.self.view_is in
    c.mark.ensures.places ∙ view-put _ _ _ c.args.owner c.args.place seen (ok_of c.insert.result _ (sym c.if-is_err.ensures.value) c.insert.ensures.updates).0
