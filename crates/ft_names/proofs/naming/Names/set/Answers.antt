use Rattle.std.proofs.Common.{rules}
use Rattle.ft_names.proofs.Keyed.{names_set}
use Rattle.ft_names.proofs.naming.Names.set.Goals as goal

pub returns : goal.returns
returns c = names_set c.args.self.now (record { numbers = c.get_mut.follows.lender c.args.number }) c.args.name.now c.args.number ((c.get_mut.follows.holds c.args.number).3 (search rules))
