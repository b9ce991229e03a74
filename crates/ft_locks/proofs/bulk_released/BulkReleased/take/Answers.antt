use Rattle.std.proofs.Common.{rules, ◌+◌, ◌<◌, ◌^◌, refl, ap, sym, subst, ◌∙◌, arith}
use Rattle.std.specs.FinSet as set
use Rattle.std.proofs.lemmas.Option.{IfSome_then}
use Rattle.ft_lock_rules.specs.Holdings.{AreSingle}
use Rattle.ft_lock_rules.specs.Locks.{LockTable, is_released}
use Rattle.ft_lock_rules.specs.Seen.{table_of}
use Rattle.ft_lock_rules.proofs.Cases.{if_absent}
use Rattle.ft_locks.specs.BulkReleased.{left_in, left_from, with_bulk}
use Rattle.ft_locks.proofs.GivenUp.{gone-none, left_nothing, step-over, step-single, step-told}
use Rattle.ft_locks.proofs.bulk_released.BulkReleased.take.Goals as goal

pub loop-self-init : goal.loop-self-init
loop-self-init c = record {
  end = refl;
  within = c.self.invariant;
  single = subst (λ g. AreSingle (left_in c.args.all g)) (sym c.self.view_is) c.requires;
  same = refl;
}

pub loop-self-preserved : goal.loop-self-preserved
loop-self-preserved c =
    let t = table_of c.args.holdings.now.cells c.args.holdings.now.lists in
    let step = step-over c.args.all c.loop-self.self-inside.cells c.take_cell-told.new.cells c.loop-self.self-inside.next (c.loop-self.self-inside.next + 1) t refl c.take_cell-told.ensures.others
    (if_absent c.take_cell-told.result _ (sym c.is_some.ensures ∙ c.if-is_some.false) c.take_cell-told.ensures.passed) c.loop-self.invariant.single in
    record {
      end = c.loop-self.invariant.end;
      within = λ k some. c.loop-self.invariant.within k (c.take_cell-told.ensures.still k some);
      single = step.0;
      same = step.1 ∙ c.loop-self.invariant.same;
    }

pub invariant_of-self : goal.invariant_of-self
invariant_of-self c = c.loop-self.invariant.within

pub invariant_of-self-then-is_some : goal.invariant_of-self-then-is_some
invariant_of-self-then-is_some c = λ k some. c.loop-self.invariant.within k (c.take_cell-told.ensures.still k some)

pub returns-then-is_some-clause-single : goal.returns-then-is_some-clause-single
returns-then-is_some-clause-single c =
    step-single c.args.all c.loop-self.self-inside.cells c.take_cell-told.new.cells c.loop-self.self-inside.next (c.loop-self.self-inside.next + 1) refl c.take_cell-told.ensures.others c.loop-self.invariant.single

pub returns-then-is_some-clause-cell : goal.returns-then-is_some-clause-cell
returns-then-is_some-clause-cell c =
    let t = table_of c.args.holdings.now.cells c.args.holdings.now.lists in
    IfSome_then c.take_cell-told.result c.take_cell-told.ensures.told (λ cell one.
    ap (λ x. is_released x cell) (sym (c.loop-self.invariant.same ∙ ap (λ g. with_bulk c.args.all g t) c.self.view_is))
    ∙ (step-told c.args.all c.loop-self.self-inside.cells c.take_cell-told.new.cells c.loop-self.self-inside.next (c.loop-self.self-inside.next + 1) t refl c.take_cell-told.ensures.others cell one c.loop-self.invariant.single).1)

pub returns-then-is_some-clause-taken : goal.returns-then-is_some-clause-taken
returns-then-is_some-clause-taken c =
    let t = table_of c.args.holdings.now.cells c.args.holdings.now.lists in
    IfSome_then c.take_cell-told.result c.take_cell-told.ensures.told (λ cell one.
    (step-told c.args.all c.loop-self.self-inside.cells c.take_cell-told.new.cells c.loop-self.self-inside.next (c.loop-self.self-inside.next + 1) t refl c.take_cell-told.ensures.others cell one c.loop-self.invariant.single).2
    ∙ ap (λ (x : LockTable). record x { released_cells = set.remove x.released_cells cell }) (c.loop-self.invariant.same ∙ ap (λ g. with_bulk c.args.all g t) c.self.view_is))

pub returns-clause-single : goal.returns-clause-single
returns-clause-single c = c.loop-self.invariant.single

pub returns-clause-none : goal.returns-clause-none
returns-clause-none c =
    let t = table_of c.args.holdings.now.cells c.args.holdings.now.lists in
    let none = left_nothing c.loop-self.self-inside.cells c.loop-self.self-inside.next c.loop-self.self-inside.end c.loop-self.invariant.within (omega (arith, c.loop-self-test.false)) in
    (none, sym (c.loop-self.invariant.same ∙ ap (λ g. with_bulk c.args.all g t) c.self.view_is) ∙ gone-none c.args.all (left_from c.loop-self.self-inside.next c.loop-self.self-inside.cells) t none)

pub overflow_add-self : goal.overflow_add-self
overflow_add-self c =
    let small : c.self.inside.end < 2 ^ 64 = search rules in
    omega (arith, c.loop-self-test.true, c.loop-self.invariant.end, small)
