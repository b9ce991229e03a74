use Rattle.std.proofs.Common.{◌≡◌, ◌==◌, ◌&&◌, ◌||◌, ◌≤◌, ℕ, true, take}
use Rattle.ft_cells.specs.declared.cell.Cell.{Cell}
use Rattle.ft_lock_rules.specs.declared.line.LockLine.{LockLine}
use Rattle.ft_lock_rules.specs.Cells.{marks_at}
use Rattle.ft_lock_rules.specs.Locks.{is_accessed, is_given}
use Rattle.ft_lock_rules.specs.Seen.{has_line}
use Rattle.ft_lock_rules.specs.Holdings.{AreOpenStill, after_back, has_place}
use Rattle.ft_locks.proofs.holdings.Holdings.reserve.Given as goal

abbrev pub invariant-loop-access : goal.invariant-loop-access
invariant-loop-access l = record {
  back : (c : Cell) (u : ℕ) → after_back l.made l.owner l.self.cells l.self.lists c u ≡ marks_at l.initial.self.cells c u;
  lines : (x : LockLine) → (has_line l.self.cells x || is_given l.owner (take l.access-index l.accesses) x) ≡ (has_line l.initial.self.cells x || is_given l.owner (take l.access-index l.accesses) x);
  all : l.has_all ≡ true → (x : LockLine) → is_given l.owner (take l.access-index l.accesses) x ≡ true → has_line l.self.cells x ≡ true;
  places : (c : Cell) (u : ℕ) → has_place l.self.cells c u ≡ (has_place l.initial.self.cells c u || ((u == l.owner) && is_accessed (take l.access-index l.accesses) c));
  still : AreOpenStill l.initial.self.lists l.self.lists;
  few : l.made ≤ l.access-index;
}
