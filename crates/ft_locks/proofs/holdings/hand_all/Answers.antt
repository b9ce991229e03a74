use Rattle.std.proofs.Common.{IsSome, ap, sym, subst, ◌∙◌}
use Rattle.std.specs.List.{list_any}
use Rattle.std.specs.FinMap as finite
use Rattle.ft_cells.specs.CellOrder.{same_cell}
use Rattle.ft_lock_rules.specs.Cells.{marks_at}
use Rattle.ft_lock_rules.specs.Holdings.{AreSingle, AreUsed, has_place, cells_under}
use Rattle.ft_locks.proofs.Slots.{if_known, and_some}
use Rattle.ft_lock_rules.proofs.Joining.{hand_step}
use Rattle.ft_lock_rules.proofs.Under.{first_key}
use Rattle.ft_lock_rules.proofs.Whole.{first_has, single_rest, rest_has}
use Rattle.ft_locks.proofs.holdings.hand_all.Goals as goal

pub hand_over-requires-clause-there : goal.hand_over-requires-clause-there
hand_over-requires-clause-there c =
    let first = first_key c.loop-key.cells.at c.loop-key.key-iterator c.in-Some.key.now c.next.new.self c.in-Some.ensures.steps c.loop-key.invariant.used in
    and_some (finite.get c.loop-key.cells.at c.in-Some.key.now) first.cell (λ d. IsSome (marks_at c.loop-key.cells.cells d c.args.from)) first.is
    (first_has (λ d. has_place c.loop-key.cells.cells d c.args.from) first.cell _ _ first.list c.loop-key.invariant.listed)

pub loop-key-preserved : goal.loop-key-preserved
loop-key-preserved c =
    let first = first_key c.loop-key.cells.at c.loop-key.key-iterator c.in-Some.key.now c.next.new.self c.in-Some.ensures.steps c.loop-key.invariant.used in
    let after = if_known (finite.get c.loop-key.cells.at c.in-Some.key.now) first.cell _ first.is c.hand_over.ensures.after in
    let same = c.hand_over.ensures.at in
    record {
      used = subst (λ a. AreUsed a c.next.new.self) (sym same) first.used;
      single = subst (λ a. AreSingle (cells_under a c.next.new.self)) (sym same) (single_rest first.cell _ _ first.list c.loop-key.invariant.single);
      listed = λ d.
          ap (λ a. list_any (same_cell d) (cells_under a c.next.new.self)) same
          ∙ rest_has c.loop-key.cells.cells c.hand_over.new.self.cells first.cell c.args.from c.args.to _ _ first.list c.loop-key.invariant.single c.loop-key.invariant.listed after d;
      marks = λ d u. hand_step c.loop-key.cells.cells c.hand_over.new.self.cells first.cell c.args.from c.args.to c.requires.apart after d u ∙ c.loop-key.invariant.marks d u;
      at = same ∙ c.loop-key.invariant.at;
    }
