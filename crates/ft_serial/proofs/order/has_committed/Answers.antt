use Rattle.std.proofs.Common.{◌≡◌, Some, None, sym, ap, ◌∙◌}
use Rattle.ft_posix.specs.Posix.{posix_calls}
use Rattle.ft_history.specs.History.{is_committed}
use Rattle.ft_history.specs.History.Fate.{Committed}
use Rattle.ft_core.specs.States.{history}
use Rattle.ft_serial.proofs.Reaching.{not-committed}
use Rattle.ft_serial.proofs.order.has_committed.Goals as goal

none-committed : None ≡ Some Committed → ⊥
none-committed e = absurd (cc)

pub returns-in-None : goal.returns-in-None
returns-in-None c =
    not-committed c.args.core.now c.requires c.find_top.result.top None (sym c.in-None.ensures) none-committed
    ∙ ap (is_committed posix_calls (history c.args.core.now.state)) c.find_top.ensures.top
