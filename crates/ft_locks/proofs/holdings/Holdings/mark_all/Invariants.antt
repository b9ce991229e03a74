use Rattle.std.proofs.Common.{◌≡◌, ◌==◌, ◌&&◌, ◌||◌, ℕ, take}
use Rattle.ft_cells.specs.declared.cell.Cell.{Cell}
use Rattle.ft_lock_rules.specs.declared.line.LockLine.{LockLine}
use Rattle.ft_lock_rules.specs.Locks.{is_held, has_access}
use Rattle.ft_lock_rules.specs.Seen.{has_line}
use Rattle.ft_lock_rules.specs.Holdings.{has_place}
use Rattle.ft_locks.proofs.holdings.Holdings.mark_all.Given as goal

abbrev pub invariant-loop-access : goal.invariant-loop-access
invariant-loop-access l = record {
  lines : (x : LockLine) → has_line l.self.cells x ≡ (has_line l.initial.self.cells x || (has_place l.initial.self.cells x.cell x.owner && is_held x.kind && (x.owner == l.owner) && has_access (take l.access-index l.accesses) x.cell x.mode));
  places : (c : Cell) (u : ℕ) → has_place l.self.cells c u ≡ has_place l.initial.self.cells c u;
  lists : l.self.lists ≡ l.initial.self.lists;
}
