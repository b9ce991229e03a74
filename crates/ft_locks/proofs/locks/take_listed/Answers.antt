use Rattle.std.proofs.Common.{ap, sym, ◌∙◌}
use Rattle.std.specs.FinSet as set
use Rattle.ft_lock_rules.specs.Cells.{marks_at}
use Rattle.ft_lock_rules.specs.Locks.{LockTable, is_released}
use Rattle.ft_lock_rules.specs.Holdings.{Held}
use Rattle.ft_lock_rules.specs.Seen.{table_of}
use Rattle.ft_lock_rules.proofs.Cases.{both_then, if_absent}
use Rattle.ft_lock_rules.proofs.Sweeping.{taken_kept, taken_unseen, taken_was, taken_seen, nothing_released}
use Rattle.ft_locks.proofs.locks.take_listed.Goals as goal

pub returns-then-is_some-clause-kept : goal.returns-then-is_some-clause-kept
returns-then-is_some-clause-kept c = taken_kept c.loop-dropped.holdings.cells c.drop_front.new.self.cells c.in-Some.ensures.dropped.cell c.in-Some.ensures.dropped.marks c.loop-dropped.holdings.lists c.drop_front.new.self.lists _ c.in-Some.ensures.dropped.lists c.loop-dropped.invariant.kept

pub returns-then-is_some-clause-cell : goal.returns-then-is_some-clause-cell
returns-then-is_some-clause-cell c = both_then c.in-Some.dropped.freed _ _ _
    (λ cell same gone. ap (λ d. is_released (table_of c.args.holdings.now.cells c.args.holdings.now.lists) d) same ∙ ap (λ t. is_released t c.in-Some.ensures.dropped.cell) (sym c.loop-dropped.invariant.same)
    ∙ taken_was c.loop-dropped.holdings.cells c.drop_front.new.self.cells c.in-Some.ensures.dropped.cell c.in-Some.ensures.dropped.marks c.loop-dropped.holdings.lists c.drop_front.new.self.lists _ c.in-Some.ensures.dropped.lists c.loop-dropped.invariant.kept (λ u. ap (λ d. marks_at c.drop_front.new.self.cells d u) (sym same) ∙ gone u) c.in-Some.ensures.dropped.there)
    c.in-Some.ensures.dropped.free c.in-Some.ensures.dropped.gone

pub returns-then-is_some-clause-taken : goal.returns-then-is_some-clause-taken
returns-then-is_some-clause-taken c = both_then c.in-Some.dropped.freed _ _ _
    (λ cell same gone.
    taken_seen c.loop-dropped.holdings.cells c.drop_front.new.self.cells c.in-Some.ensures.dropped.cell c.in-Some.ensures.dropped.marks c.loop-dropped.holdings.lists c.drop_front.new.self.lists _ c.in-Some.ensures.dropped.lists c.loop-dropped.invariant.kept (λ u. ap (λ d. marks_at c.drop_front.new.self.cells d u) (sym same) ∙ gone u) c.in-Some.ensures.dropped.there
    ∙ ap (λ (t : LockTable). record t { released_cells = set.remove t.released_cells c.in-Some.ensures.dropped.cell }) c.loop-dropped.invariant.same
    ∙ ap (λ d. record (table_of c.args.holdings.now.cells c.args.holdings.now.lists) { released_cells = set.remove (table_of c.args.holdings.now.cells c.args.holdings.now.lists).released_cells d }) (sym same))
    c.in-Some.ensures.dropped.free c.in-Some.ensures.dropped.gone

pub loop-dropped-preserved : goal.loop-dropped-preserved
loop-dropped-preserved c = record {
  kept = taken_kept c.loop-dropped.holdings.cells c.drop_front.new.self.cells c.in-Some.ensures.dropped.cell c.in-Some.ensures.dropped.marks c.loop-dropped.holdings.lists c.drop_front.new.self.lists _ c.in-Some.ensures.dropped.lists c.loop-dropped.invariant.kept;
  same = taken_unseen c.loop-dropped.holdings.cells c.drop_front.new.self.cells c.in-Some.ensures.dropped.cell c.in-Some.ensures.dropped.marks c.loop-dropped.holdings.lists c.drop_front.new.self.lists _ c.in-Some.ensures.dropped.lists c.loop-dropped.invariant.kept
      (if_absent c.in-Some.dropped.freed _ (sym c.is_some.ensures ∙ c.if-is_some.false) c.in-Some.ensures.dropped.more) ∙ c.loop-dropped.invariant.same;
}

pub returns-clause-none : goal.returns-clause-none
returns-clause-none c = (
  sym (ap (λ (t : LockTable). t.released_cells) c.loop-dropped.invariant.same)
      ∙ nothing_released c.loop-dropped.holdings.cells c.loop-dropped.holdings.lists c.in_default.ensures.none.0,
  ap (λ (h : Held). table_of h.cells h.lists) c.in_default.ensures.none.1 ∙ c.loop-dropped.invariant.same,
)
