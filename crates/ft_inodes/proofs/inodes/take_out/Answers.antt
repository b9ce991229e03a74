use Rattle.ft_inodes.proofs.Keys.{takes-key}
use Rattle.ft_inodes.proofs.inodes.take_out.Goals as goal

pub returns-in-Some-clause-index : goal.returns-in-Some-clause-index
returns-in-Some-clause-index c = takes-key c.args.number c.args.index.now c.remove.new.self c.remove.ensures.after

pub returns-in_default-clause-index : goal.returns-in_default-clause-index
returns-in_default-clause-index c = takes-key c.args.number c.args.index.now c.remove.new.self c.remove.ensures.after
