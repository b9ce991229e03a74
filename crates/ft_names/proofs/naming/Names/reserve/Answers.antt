use Rattle.std.proofs.Common.{rules}
use Rattle.ft_names.proofs.Keyed.{names_reserved}
use Rattle.ft_names.proofs.naming.Names.reserve.Goals as goal

pub returns-in_ok-insert-clause-same : goal.returns-in_ok-insert-clause-same
returns-in_ok-insert-clause-same c =
    names_reserved c.args.self.now (record { numbers = c.insert.new.self }) c.in-Some.name.now c.in_ok-key.key.items c.in_ok-key.ensures.items (search rules) c.in_ok-insert.ensures.updates
