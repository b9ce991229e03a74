use Rattle.std.proofs.Common.{ap, ◌∙◌}
use Rattle.std.specs.FinMap as finite
use Rattle.ft_base.proofs.Views.{get-seen}
use Rattle.ft_lock_rules.specs.declared.owner_index.Inside.{Inside}
use Rattle.ft_lock_rules.specs.CellLocks.{Indexed}
use Rattle.ft_lock_rules.proofs.owner_index.OwnerIndex.get.Goals as goal

pub returns : goal.returns
returns c =
    let seen = ap (λ (b : Inside). finite.from_entries b.places.entries) c.deref.ensures ∙ ap (λ (x : Indexed). x.places) c.self.view_is in
    c.copied.ensures ∙ c.get.ensures.value ∙ get-seen _ _ c.args.owner seen
