use Rattle.std.proofs.Common.{false, refl, ap, sym, unwrap_or, ◌∙◌}
use Rattle.std.specs.Ordering.{nat_cmp}
use Rattle.std.proofs.lemmas.Bool.{false≢true}
use Rattle.std.specs.FinMap as finite
use Rattle.ft_lock_rules.specs.CellLocks.{Owners}
use Rattle.ft_lock_rules.specs.Locks.{is_kept}
use Rattle.ft_lock_rules.specs.Seen.{is_kept_among}
use Rattle.ft_lock_rules.proofs.Emptied.{kept-seen, among-none}
use Rattle.ft_locks.proofs.locks.LocksKeeps.keeps.Goals as goal

abbrev nobody : Owners
nobody = finite.empty

pub returns-in-Some : goal.returns-in-Some
returns-in-Some c =
    c.is_kept_among.ensures
    ∙ ap (λ o. is_kept_among c.self.inside.keeps_all c.args.cell.now (unwrap_or o nobody)) c.in-Some.ensures
    ∙ sym (kept-seen c.self.inside.keeps_all c.self.inside.holdings.cells c.self.inside.holdings.lists c.args.cell.now)
    ∙ ap (λ t. is_kept t c.args.cell.now) c.self.view_is

pub returns-in-None : goal.returns-in-None
returns-in-None c =
    sym (among-none c.self.inside.keeps_all c.args.cell.now)
    ∙ ap (λ o. is_kept_among c.self.inside.keeps_all c.args.cell.now (unwrap_or o nobody)) c.in-None.ensures
    ∙ sym (kept-seen c.self.inside.keeps_all c.self.inside.holdings.cells c.self.inside.holdings.lists c.args.cell.now)
    ∙ ap (λ t. is_kept t c.args.cell.now) c.self.view_is
