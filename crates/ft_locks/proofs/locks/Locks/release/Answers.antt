use Rattle.std.proofs.Common.{◌≡◌, true, false, not, refl, sym, is_some, ap, subst, ◌∙◌}
use Rattle.std.specs.FinMap as finite
use Rattle.std.proofs.lemmas.Bool.{false≢true, eq-eqb}
use Rattle.ft_cells.specs.declared.cell.Cell.{Cell}
use Rattle.ft_owned_lists.specs.OwnedLists.{Lists}
use Rattle.ft_lock_rules.specs.Cells.{Cells}
use Rattle.ft_lock_rules.specs.Holdings.{AreSingle}
use Rattle.ft_lock_rules.specs.Locks.{LockTable, is_opened, is_locked, AreFreed, AreReleased}
use Rattle.ft_lock_rules.specs.Seen.{table_of, IsKept}
use Rattle.ft_lock_rules.proofs.Handing.{opened_open}
use Rattle.ft_locks.specs.declared.locks.Locks.TheInside.{Inside}
use Rattle.ft_locks.specs.BulkReleased.{left_in, with_bulk, seen_as}
use Rattle.ft_locks.proofs.GivenUp.{at-once, one-by-one}
use Rattle.ft_locks.proofs.locks.Locks.release.Goals.{then-at_once, else-at_once}
use Rattle.ft_locks.proofs.locks.Locks.release.Goals as goal

pub release_places-at_once-requires-clause-there : goal.release_places-at_once-requires-clause-there
release_places-at_once-requires-clause-there c =
    ap (λ u. is_some (finite.get c.self.inside.holdings.lists u)) c.txn.view_is
    ∙ (opened_open (table_of c.self.inside.holdings.cells c.self.inside.holdings.lists) c.self.inside.holdings.cells c.self.inside.holdings.lists refl c.args.txn (ap (λ t. is_opened t c.args.txn) c.self.view_is ∙ c.requires)).1

pub release_places-at_once-requires-clause-apart : goal.release_places-at_once-requires-clause-apart
release_places-at_once-requires-clause-apart c = λ e.
    false≢true (sym (opened_open (table_of c.self.inside.holdings.cells c.self.inside.holdings.lists) c.self.inside.holdings.cells c.self.inside.holdings.lists refl c.args.txn (ap (λ t. is_opened t c.args.txn) c.self.view_is ∙ c.requires)).0
    ∙ eq-eqb c.args.txn 0 (sym c.txn.view_is ∙ e))

pub invariant_of-self : goal.invariant_of-self
invariant_of-self c =
    let kept = subst (λ (x : Cells × Lists Cell). IsKept x.0 x.1) (λ i. (sym c.close.ensures.cells i, sym c.close.ensures.lists i)) c.release_places-at_once.ensures.kept in
    elim c.if-at_once.branch [
      | then-at_once w ↦ subst (λ (x : Inside). IsKept x.holdings.cells x.holdings.lists × AreSingle (left_in x.bulk_keeps_all x.bulk)) (sym w.self-inside-is)
          (kept, c.release_places-at_once.ensures.single c.self.inside.keeps_all (λ no. absurd (false≢true (sym no ∙ w.if-at_once.true))))
      | else-at_once w ↦ subst (λ (x : Inside). IsKept x.holdings.cells x.holdings.lists × AreSingle (left_in x.bulk_keeps_all x.bulk)) (sym w.self-inside-is)
          (kept, c.release_places-at_once.ensures.single c.self.inside.bulk_keeps_all (λ _. c.self.invariant.1))
    ]

pub returns : goal.returns
returns c =
    let s = table_of c.close.new.self.cells c.close.new.self.lists in
    let t = (table_of c.self.inside.holdings.cells c.self.inside.holdings.lists) in
    let k = c.self.inside.keeps_all in
    let all = c.self.inside.bulk_keeps_all in
    let old = with_bulk all c.self.inside.bulk t in
    let bulk = c.release_places-at_once.new.bulk in
    let done = c.release_places-at_once.ensures in
    let at_once = c.release_places-at_once.result in
    let owner = c.txn.inside.0 in
    let closed : table_of c.release_places-at_once.new.holdings.cells (finite.remove c.release_places-at_once.new.holdings.lists owner) ≡ s = λ i. table_of (sym c.close.ensures.cells i) (sym c.close.ensures.lists i) in
    let view : Inside → LockTable = λ x. seen_as (not at_once) (with_bulk x.bulk_keeps_all x.bulk (table_of x.holdings.cells x.holdings.lists)) in
    let seen : AreReleased (seen_as k old) (view c.if-at_once.self-inside) owner = elim c.if-at_once.branch [
      | then-at_once w ↦
          subst (λ (x : Inside). AreReleased (seen_as k old) (view x) owner) (sym w.self-inside-is)
          (subst (λ b. AreReleased (seen_as k old) (seen_as (not b) (with_bulk k bulk s)) owner) (sym w.if-at_once.true)
          (at-once k old (with_bulk k bulk s) owner
          (subst (λ x. AreFreed k old (with_bulk k bulk x) owner) closed (done.at_once w.if-at_once.true all k))
          (λ d. ap (λ x. is_locked x d) (sym closed) ∙ done.none_left w.if-at_once.true d)))
      | else-at_once w ↦
          subst (λ (x : Inside). AreReleased (seen_as k old) (view x) owner) (sym w.self-inside-is)
          (subst (λ b. AreReleased (seen_as k old) (seen_as (not b) (with_bulk all bulk s)) owner) (sym w.if-at_once.false)
          (one-by-one k old (with_bulk all bulk s) owner
          (subst (λ x. AreFreed true old (with_bulk all bulk x) owner) closed (done.one_by_one w.if-at_once.false all))))
    ] in
    subst (λ u. AreReleased c.args.self.now (view c.if-at_once.self-inside) u) c.txn.view_is
    (subst (λ x. AreReleased x (view c.if-at_once.self-inside) owner) c.self.view_is seen)
