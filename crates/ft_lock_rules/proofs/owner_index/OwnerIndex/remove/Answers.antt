use Rattle.std.proofs.Common.{ap, ◌∙◌}
use Rattle.std.specs.FinMap as finite
use Rattle.ft_base.proofs.Views.{view-remove}
use Rattle.ft_lock_rules.specs.declared.owner_index.Inside.{Inside}
use Rattle.ft_lock_rules.specs.CellLocks.{Indexed}
use Rattle.ft_lock_rules.proofs.owner_index.OwnerIndex.remove.Goals as goal

pub returns : goal.returns
returns c =
    let seen = ap (λ (b : Inside). finite.from_entries b.places.entries) c.deref_mut.ensures.value ∙ ap (λ (x : Indexed). x.places) c.self.view_is in
    let last = ap (λ (b : Inside). b.last_writer) c.deref_mut.ensures.value ∙ ap (λ (x : Indexed). x.last_writer) c.self.view_is in
    λ i. record { places = view-remove _ _ _ c.args.owner seen c.remove.ensures.updates.0 i; last_writer = last i }
