use Rattle.std.proofs.Common.{sym, subst}
use Rattle.ft_view.specs.Replay.{IsReadable}
use Rattle.ft_shared.proofs.opened.blank.Goals as goal

pub new-requires : goal.new-requires
new-requires c = subst IsReadable (sym c.in_ok-first.ensures) c.requires

pub new-requires-2 : goal.new-requires-2
new-requires-2 c = subst IsReadable (sym c.in_ok-second.ensures) c.requires
