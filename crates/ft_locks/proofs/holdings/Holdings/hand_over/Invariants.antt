use Rattle.std.proofs.Common.{◌≡◌, ℕ, length}
use Rattle.ft_owned_lists.specs.OwnedLists.{list_in}
use Rattle.ft_cells.specs.declared.cell.Cell.{Cell}
use Rattle.ft_lock_rules.specs.Cells.{marks_at, after_hand}
use Rattle.ft_lock_rules.specs.Holdings.{AreOpenStill}
use Rattle.ft_locks.proofs.holdings.Holdings.hand_over.Given as goal

abbrev pub invariant-loop : goal.invariant-loop
invariant-loop l = record {
  marks : (c : Cell) (u : ℕ) → after_hand l.from l.to (marks_at l.self.cells c) u ≡ after_hand l.from l.to (marks_at l.initial.self.cells c) u;
  still : AreOpenStill l.initial.self.lists l.self.lists;
}

abbrev pub decreases-loop : goal.decreases-loop
decreases-loop l = length (list_in l.self.lists l.from)
