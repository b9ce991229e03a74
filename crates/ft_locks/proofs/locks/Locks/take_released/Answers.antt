use Rattle.std.proofs.Common.{ap, sym, ◌∙◌}
use Rattle.std.specs.FinSet as set
use Rattle.std.proofs.lemmas.Option.{IfSome_then}
use Rattle.ft_lock_rules.specs.Locks.{LockTable}
use Rattle.ft_lock_rules.specs.Seen.{table_of}
use Rattle.ft_lock_rules.proofs.Cases.{if_absent, none_then}
use Rattle.ft_locks.specs.BulkReleased.{seen_as}
use Rattle.ft_locks.proofs.GivenUp.{gone-none}
use Rattle.ft_locks.proofs.locks.Locks.take_released.Goals as goal

pub returns-clause-taken : goal.returns-clause-taken
returns-clause-taken c =
    let none = if_absent c.take-told.result _ (sym c.is_some.ensures ∙ c.if-is_some.false) c.take-told.ensures.none in
    IfSome_then c.take_listed.result c.take_listed.ensures.taken (λ cell taken.
    ap (seen_as c.self.inside.keeps_all) (gone-none c.self.inside.bulk_keeps_all c.take-told.new.self (table_of c.take_listed.new.holdings.cells c.take_listed.new.holdings.lists) none.0 ∙ taken)
    ∙ ap (λ (t : LockTable). record t { released_cells = set.remove t.released_cells cell }) (ap (seen_as c.self.inside.keeps_all) (sym none.1) ∙ c.self.view_is))

pub returns-clause-none : goal.returns-clause-none
returns-clause-none c =
    let none = if_absent c.take-told.result _ (sym c.is_some.ensures ∙ c.if-is_some.false) c.take-told.ensures.none in
    let before = ap (seen_as c.self.inside.keeps_all) (sym none.1) ∙ c.self.view_is in
    none_then c.take_listed.result _ _ (λ left. (
      ap (λ (t : LockTable). t.released_cells) (sym before) ∙ left.0,
      ap (seen_as c.self.inside.keeps_all) (gone-none c.self.inside.bulk_keeps_all c.take-told.new.self (table_of c.take_listed.new.holdings.cells c.take_listed.new.holdings.lists) none.0 ∙ left.1) ∙ before,
    )) c.take_listed.ensures.none
