use Rattle.ft_forest.proofs.Changing.{records-none}
use Rattle.ft_forest.proofs.forest.Forest.restart.Goals as goal

pub invariant_of-self : goal.invariant_of-self
invariant_of-self c = records-none c.self.inside.limits c.last-self-inside.result c.new.result c.self.invariant.sound c.new.ensures.links
