use Rattle.std.proofs.Common.{◌∙◌, filter, not, ap}
use Rattle.std.specs.FinMap as finite
use Rattle.ft_waits.proofs.Edging.{are-ahead}
use Rattle.ft_waits.proofs.behind.ahead_of.Goals as goal

pub returns : goal.returns
returns c =
    let waiting = c.in_ok-waiting.waiting in
    are-ahead c.args.core.now.state c.args.queue.now c.args.txn c.in_ok-edges.edges.items c.in_ok-edges.ensures (λ u. finite.contains_key waiting u) c.in_ok-waiting.ensures c.in_ok-ahead.ahead.items
    (c.in_ok-ahead.ensures ∙ ap (filter (λ u. not (finite.contains_key waiting u))) c.in_front-front.ensures)
