use Rattle.ft_record.specs.Recent.{forgotten_by}
use Rattle.ft_record.proofs.Records.{recent-dropped}
use Rattle.ft_record.proofs.recent.Recent.drop_ask.Goals as goal

pub invariant_of-self : goal.invariant_of-self
invariant_of-self c = recent-dropped c.self.inside.core.state c.drop_ask.new.self.state c.args.txn c.drop_ask.result c.self.inside.past (forgotten_by c.self.inside.since) c.self.invariant c.drop_ask.ensures
