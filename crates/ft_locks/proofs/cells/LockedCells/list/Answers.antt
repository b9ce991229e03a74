use Rattle.std.proofs.Common.{ap, ◌∙◌, ◌+◌}
use Rattle.std.proofs.lemmas.Result.{on_ok_weaker}
use Rattle.ft_lock_rules.specs.Cells.{Keyed}
use Rattle.ft_lock_rules.specs.Seen.{has_line}
use Rattle.ft_lock_rules.specs.Listing.{times_listed, once}
use Rattle.ft_locks.proofs.Listed.{on_cells}
use Rattle.ft_locks.specs.Slots.{at_of, keys_in}
use Rattle.ft_locks.proofs.cells.LockedCells.list.Goals as goal

pub returns : goal.returns
returns c =
    on_ok_weaker c.list_cells.result
    (λ added l. added l ∙ ap (λ n. times_listed c.args.lines.now.items l + n)
    (on_cells c.self.inside.locked (keys_in (at_of c.self.inside.locked)) c.self.invariant.keyed l ∙ ap (λ (k : Keyed). once (has_line k.cells l)) c.self.view_is))
    c.list_cells.ensures
