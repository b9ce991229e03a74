use Rattle.std.proofs.Common.{arith, refl, ap, ◌∙◌}
use Rattle.std.specs.FinMap as finite
use Rattle.std.specs.FinSet as set
use Rattle.ft_owned_lists.specs.OwnedLists.{list_in}
use Rattle.ft_lock_rules.specs.Locks.{LockTable}
use Rattle.ft_lock_rules.specs.Seen.{table_of}
use Rattle.ft_lock_rules.proofs.Cases.{ok_then, err_then}
use Rattle.ft_lock_rules.proofs.Joining.{apart_test}
use Rattle.ft_lock_rules.proofs.Handing.{kept_open, open_view, opens_more}
use Rattle.ft_locks.specs.BulkReleased.{with_bulk, seen_as}
use Rattle.ft_locks.proofs.locks.Locks.open.Goals as goal

pub invariant_of-self : goal.invariant_of-self
invariant_of-self c = (
  kept_open (table_of c.self.inside.holdings.cells c.self.inside.holdings.lists) c.self.inside.holdings.cells c.self.inside.holdings.lists refl c.self.invariant.0 c.open.new.self.cells c.open.new.self.lists c.open.ensures.cells
      (opens_more c.open.result c.self.inside.holdings.lists c.open.new.self.lists c.txn.inside.0 (list_in c.self.inside.holdings.lists c.txn.inside.0) c.open.ensures.ok
      (err_then c.open.result _ _ (λ (same : _). ap (λ h. h.lists) same) c.open.ensures.err) 0),
  c.self.invariant.1,
)

pub returns-clause-ok : goal.returns-clause-ok
returns-clause-ok c = ok_then c.open.result _ _
    (λ (is : _). ap (λ t. seen_as c.self.inside.keeps_all (with_bulk c.self.inside.bulk_keeps_all c.self.inside.bulk t)) (open_view (table_of c.self.inside.holdings.cells c.self.inside.holdings.lists) c.self.inside.holdings.cells c.self.inside.holdings.lists refl c.self.invariant.0 c.open.new.self.cells c.open.new.self.lists c.args.txn
    (list_in c.self.inside.holdings.lists c.txn.inside.0) c.open.ensures.cells (apart_test c.args.txn 0 (λ e. omega (arith, c.requires, e)))
    (is ∙ ap (λ u. finite.insert c.self.inside.holdings.lists u (list_in c.self.inside.holdings.lists c.txn.inside.0)) c.txn.view_is))
    ∙ ap (λ (t : LockTable). record t { opened = set.insert t.opened c.args.txn }) c.self.view_is)
    c.open.ensures.ok
