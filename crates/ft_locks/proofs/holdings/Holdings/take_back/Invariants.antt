use Rattle.std.proofs.Common.{◌≡◌, ℕ}
use Rattle.ft_cells.specs.declared.cell.Cell.{Cell}
use Rattle.ft_lock_rules.specs.Holdings.{AreOpenStill, after_back}
use Rattle.ft_locks.proofs.holdings.Holdings.take_back.Given as goal

abbrev pub invariant-loop-count : goal.invariant-loop-count
invariant-loop-count l = record {
  marks : (c : Cell) (u : ℕ) → after_back l.count l.owner l.self.cells l.self.lists c u ≡ after_back l.initial.count l.owner l.initial.self.cells l.initial.self.lists c u;
  still : AreOpenStill l.initial.self.lists l.self.lists;
}

abbrev pub decreases-loop-count : goal.decreases-loop-count
decreases-loop-count l = l.count
