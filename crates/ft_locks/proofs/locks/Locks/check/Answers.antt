use Rattle.std.proofs.Common.{◌+◌, ◌≡◌, refl, sym, ap, subst, ◌∙◌, is_some, take, arith}
use Rattle.std.proofs.lemmas.Bool.{false≢true, and_parts}
use Rattle.std.specs.List.{list_any}
use Rattle.std.specs.Ordering.{nat_cmp}
use Rattle.std.specs.FinMap as finite
use Rattle.std.proofs.lemmas.List.{take_all}
use Rattle.ft_lock_rules.specs.Blocking.{against, blocks}
use Rattle.ft_lock_rules.specs.Locks.{LockTable, AreBlockers, AreGranted}
use Rattle.ft_lock_rules.specs.Seen.{table_of}
use Rattle.ft_locks.specs.BulkReleased.{with_bulk}
use Rattle.ft_lock_rules.specs.Surveys.{HasItsCellsAlone, HasNoHolderAbove, HoldsAll}
use Rattle.ft_lock_rules.proofs.InTheWay.{are_blockers}
use Rattle.ft_lock_rules.proofs.Surveys.{alone_there, no_holder_there, holds_none, holds_more, held_granted, noted_more}
use Rattle.ft_locks.proofs.GivenUp.{blockers-gone, granted-gone, seen-given}
use Rattle.ft_locks.proofs.locks.Locks.check.Goals.{then-has_all, else-has_all}
use Rattle.ft_locks.proofs.locks.Locks.check.Goals as goal

pub loop-access-init : goal.loop-access-init
loop-access-init c = record {
  noted = λ u. ap (λ m. finite.contains_key m u) c.new-found.ensures ∙ ap is_some (finite.get-empty nat_cmp u);
  few = omega arith;
  all = λ _. refl;
  held = holds_none c.self.inside.holdings.cells c.args.txn;
}

pub check_access-requires : goal.check_access-requires
check_access-requires c = record {
  alone = alone_there (table_of c.self.inside.holdings.cells c.self.inside.holdings.lists) c.self.inside.holdings.cells c.self.inside.holdings.lists refl c.args.forest.now c.args.txn
      (subst (λ t. HasItsCellsAlone t c.args.forest.now c.args.txn) (sym c.self.view_is) c.requires.alone);
  no_holder = λ strict. no_holder_there (table_of c.self.inside.holdings.cells c.self.inside.holdings.lists) c.self.inside.holdings.cells c.self.inside.holdings.lists refl c.args.forest.now
      (subst (λ t. HasNoHolderAbove t c.args.forest.now) (sym c.self.view_is) (c.requires.no_holder strict));
}

pub loop-access-preserved : goal.loop-access-preserved
loop-access-preserved c =
    let m = c.self.inside.holdings.cells in
    let xs = c.args.accesses.now in
    let i = c.loop-access.access-index in
    let was = c.loop-access.invariant in
    record {
      noted = noted_more c.loop-access.found c.check_access.new.found (against c.args.rule c.args.forest.now c.args.txn) m xs i c.access-item.result c.loop-access-test.true c.access-item.is was.noted c.in_ok-is_held.ensures.noted;
      few = elim c.if-has_all.branch [
        | then-has_all w ↦ omega (arith, was.few, w.held-is)
        | else-has_all w ↦ omega (arith, was.few, w.held-is)
      ];
      all = λ has. elim c.if-has_all.branch [
        | then-has_all w ↦ w.held-is ∙ ap (λ n. n + 1) (was.all (and_parts c.loop-access.has_all c.in_ok-is_held.is_held has).0)
        | else-has_all w ↦ absurd (false≢true (sym w.if-has_all.false ∙ has))
      ];
      held = elim c.if-has_all.branch [
        | then-has_all w ↦
            let both = and_parts c.loop-access.has_all c.in_ok-is_held.is_held w.if-has_all.true in
            let all : c.loop-access.held ≡ i = was.all both.0 in
            subst (λ n. HoldsAll m c.args.txn (take n xs)) (sym (w.held-is ∙ ap (λ n. n + 1) all))
            (holds_more m c.args.txn xs i c.access-item.result c.loop-access-test.true c.access-item.is (subst (λ n. HoldsAll m c.args.txn (take n xs)) all was.held) (c.in_ok-is_held.ensures.held both.1))
        | else-has_all w ↦ subst (λ n. HoldsAll m c.args.txn (take n xs)) (sym w.held-is) was.held
      ];
    }

pub returns-clause-blockers : goal.returns-clause-blockers
returns-clause-blockers c =
    subst (λ ys. AreBlockers c.args.rule c.args.self.now c.args.forest.now c.args.txn c.args.accesses.now ys) (sym c.in_ok-blockers.ensures)
    (subst (λ t. AreBlockers c.args.rule t c.args.forest.now c.args.txn c.args.accesses.now (finite.keys c.loop-access.found)) c.self.view_is
    (blockers-gone c.self.inside.bulk_keeps_all c.self.inside.keeps_all c.self.inside.bulk (table_of c.self.inside.holdings.cells c.self.inside.holdings.lists) c.args.rule c.args.forest.now c.args.txn c.args.accesses.now (finite.keys c.loop-access.found)
    (are_blockers c.args.rule c.args.forest.now c.args.txn (table_of c.self.inside.holdings.cells c.self.inside.holdings.lists) c.self.inside.holdings.cells c.self.inside.holdings.lists refl c.args.accesses.now c.loop-access.found
    (λ u. c.loop-access.invariant.noted u ∙ ap (λ xs. list_any (λ a. blocks (against c.args.rule c.args.forest.now c.args.txn) c.self.inside.holdings.cells a u) xs)
    (take_all c.loop-access.access-index c.args.accesses.now c.loop-access-test.false)))))

pub returns-clause-held : goal.returns-clause-held
returns-clause-held c =
    let xs = take c.loop-access.held c.args.accesses.now in
    let t = (table_of c.self.inside.holdings.cells c.self.inside.holdings.lists) in
    subst (λ (u : LockTable). AreGranted u u c.args.txn xs) c.self.view_is
    (record {
      given = seen-given c.self.inside.keeps_all c.self.inside.keeps_all (with_bulk c.self.inside.bulk_keeps_all c.self.inside.bulk t) (with_bulk c.self.inside.bulk_keeps_all c.self.inside.bulk t) c.args.txn xs
          (granted-gone c.self.inside.bulk_keeps_all c.self.inside.bulk t t c.args.txn xs (held_granted t c.self.inside.holdings.cells c.self.inside.holdings.lists refl c.args.txn xs c.loop-access.invariant.held));
      useless = λ d h. h;
    })
