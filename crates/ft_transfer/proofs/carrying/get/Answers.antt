use Rattle.std.proofs.Common.{inl}
use Rattle.ft_transfer.proofs.carrying.get.Goals as goal

pub returns : goal.returns
returns g c =
    inl (c.in_ok-sub.sub, c.txn_of.new.core.state, c.in_ok-sub.ensures, (c.get_in-made.result, c.get_in-made.new.core.state, c.get_in-made.ensures, c.end_sub.ensures))
