use Rattle.std.proofs.Common.{◌≡◌, ◌-◌}
use Rattle.ft_lock_rules.specs.Holdings.{AreSingle}
use Rattle.ft_lock_rules.specs.Seen.{table_of}
use Rattle.ft_locks.specs.BulkReleased.{left_in, left_from, with_bulk, EndBefore}
use Rattle.ft_locks.proofs.bulk_released.BulkReleased.take.Given as goal

abbrev pub invariant-loop-self : goal.invariant-loop-self
invariant-loop-self l = record {
  end : l.self-inside.end ≡ l.initial.self-inside.end;
  within : EndBefore l.self-inside.cells l.self-inside.end;
  single : AreSingle (left_in l.all (left_from l.self-inside.next l.self-inside.cells));
  same : with_bulk l.all (left_from l.self-inside.next l.self-inside.cells) (table_of l.holdings.cells l.holdings.lists)
      ≡ with_bulk l.all (left_from l.initial.self-inside.next l.initial.self-inside.cells) (table_of l.holdings.cells l.holdings.lists);
}

abbrev pub decreases-loop-self : goal.decreases-loop-self
decreases-loop-self l = l.self-inside.end - l.self-inside.next
