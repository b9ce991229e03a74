use Rattle.std.proofs.Common.{sym, ap, ◌∙◌}
use Rattle.std.specs.FinMap as finite
use Rattle.ft_lock_rules.specs.Holdings.{Held}
use Rattle.ft_lock_rules.proofs.Under.{open-under}
use Rattle.ft_locks.proofs.holdings.Holdings.is_open.Goals as goal

pub returns : goal.returns
returns c = c.is_open.ensures ∙ sym (open-under c.self.inside.cells.at c.self.inside.chains c.args.owner) ∙ ap (λ (h : Held). finite.contains_key h.lists c.args.owner) c.self.view_is
