use Rattle.std.proofs.Common.{◌≡◌, ℕ}
use Rattle.std.specs.List.{list_any}
use Rattle.ft_cells.specs.declared.cell.Cell.{Cell}
use Rattle.ft_cells.specs.CellOrder.{same_cell}
use Rattle.ft_lock_rules.specs.Cells.{marks_at, after_hand}
use Rattle.ft_lock_rules.specs.Holdings.{AreSingle, AreUsed, has_place, cells_under}
use Rattle.ft_locks.proofs.holdings.hand_all.Given as goal

-- the keys that are left are those of the cells on which the owner still has a place
abbrev pub invariant-loop-key : goal.invariant-loop-key
invariant-loop-key l = record {
  used : AreUsed l.cells.at l.key-iterator;
  single : AreSingle (cells_under l.cells.at l.key-iterator);
  listed : (c : Cell) → list_any (same_cell c) (cells_under l.cells.at l.key-iterator) ≡ has_place l.cells.cells c l.from;
  marks : (c : Cell) (u : ℕ) → after_hand l.from l.to (marks_at l.cells.cells c) u ≡ after_hand l.from l.to (marks_at l.initial.cells.cells c) u;
  at : l.cells.at ≡ l.initial.cells.at;
}
