use Rattle.std.proofs.Common.{None, ◌∙◌}
use Rattle.ft_forest.specs.Records.{links_by}
use Rattle.ft_forest.proofs.Setting.{no-records}
use Rattle.ft_forest.proofs.records.Records.new.Goals as goal

pub returns-clause-links : goal.returns-clause-links
returns-clause-links c = (λ i. links_by None (c.new.ensures i).items (c.new-2.ensures i)) ∙ no-records
