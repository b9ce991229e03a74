use Rattle.std.proofs.Common.{refl, is_some, ap, subst, ◌∙◌, ◌==◌, ◌||◌, sym, false}
use Rattle.std.proofs.lemmas.Bool.{false≢true, eq-eqb}
use Rattle.std.specs.FinMap as finite
use Rattle.ft_lock_rules.specs.Locks.{is_opened, is_released, AreGranted}
use Rattle.ft_lock_rules.specs.Seen.{table_of}
use Rattle.ft_lock_rules.proofs.Cases.{on_any}
use Rattle.ft_lock_rules.proofs.Handing.{opened_open}
use Rattle.ft_locks.specs.BulkReleased.{with_bulk, seen_as}
use Rattle.ft_locks.proofs.GivenUp.{granted-gone, granted-seen}
use Rattle.ft_locks.proofs.locks.Locks.grant.Goals as goal

pub give_locks-requires-clause-there : goal.give_locks-requires-clause-there
give_locks-requires-clause-there c =
    ap (λ u. is_some (finite.get c.self.inside.holdings.lists u)) c.txn.view_is
    ∙ (opened_open (table_of c.self.inside.holdings.cells c.self.inside.holdings.lists) c.self.inside.holdings.cells c.self.inside.holdings.lists refl c.args.txn (ap (λ t. is_opened t c.args.txn) c.self.view_is ∙ c.requires)).1

pub give_locks-requires-clause-apart : goal.give_locks-requires-clause-apart
give_locks-requires-clause-apart c = λ e.
    false≢true (sym (opened_open (table_of c.self.inside.holdings.cells c.self.inside.holdings.lists) c.self.inside.holdings.cells c.self.inside.holdings.lists refl c.args.txn (ap (λ t. is_opened t c.args.txn) c.self.view_is ∙ c.requires)).0
    ∙ eq-eqb c.args.txn 0 (sym c.txn.view_is ∙ e))

pub returns-in_err-give_locks-clause-err : goal.returns-in_err-give_locks-clause-err
returns-in_err-give_locks-clause-err c = on_any c.from_residual.result _
    (ap (λ t. seen_as c.self.inside.keeps_all (with_bulk c.self.inside.bulk_keeps_all c.self.inside.bulk t)) c.in_err-give_locks.ensures.err ∙ c.self.view_is)

pub returns-clause-ok : goal.returns-clause-ok
returns-clause-ok c =
    let t = (table_of c.self.inside.holdings.cells c.self.inside.holdings.lists) in
    let s = table_of c.give_locks.new.holdings.cells c.give_locks.new.holdings.lists in
    let all = c.self.inside.bulk_keeps_all in
    let bulk = c.self.inside.bulk in
    let k = c.self.inside.keeps_all in
    let new = seen_as (k || c.has_released-has_released.result) (with_bulk all bulk s) in
    subst (λ u. AreGranted c.args.self.now new u c.args.accesses.now) c.txn.view_is
    (subst (λ x. AreGranted x new c.txn.inside.0 c.args.accesses.now) c.self.view_is
    (granted-seen k c.has_released-has_released.result (with_bulk all bulk t) (with_bulk all bulk s) c.txn.inside.0 c.args.accesses.now
    (granted-gone all bulk t s c.txn.inside.0 c.args.accesses.now c.in_ok-give_locks.ensures.ok)
    (λ no d. ap (λ x. is_released x d) c.self.view_is ∙ c.has_released-has_released.ensures no d)))
