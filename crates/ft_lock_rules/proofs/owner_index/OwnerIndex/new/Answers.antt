use Rattle.std.proofs.Common.{ap, ◌∙◌}
use Rattle.std.specs.FinMap as finite
use Rattle.ft_lock_rules.specs.declared.owner_index.Inside.{Inside}
use Rattle.ft_lock_rules.proofs.HolderReaders.{index_new}
use Rattle.ft_lock_rules.proofs.owner_index.OwnerIndex.new.Goals as goal

pub returns : goal.returns
returns c = index_new _ (ap (λ (b : Inside). finite.from_entries b.places.entries) c.in_ok-inside.ensures.ok ∙ ap finite.from_entries c.new.ensures.empty)
