use Rattle.ft_forest.proofs.Changing.{records-none}
use Rattle.ft_forest.proofs.forest.Forest.new.Goals as goal

pub invariant_of-result : goal.invariant_of-result
invariant_of-result c = records-none c.args.limits c.args.base c.new.result c.requires c.new.ensures.links
