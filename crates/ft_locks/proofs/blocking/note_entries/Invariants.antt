use Rattle.std.proofs.Common.{◌≡◌, ◌||◌, ℕ, take}
use Rattle.std.specs.List.{list_any}
use Rattle.std.specs.FinMap as finite
use Rattle.ft_lock_rules.specs.Blocking.{against}
use Rattle.ft_lock_rules.proofs.InTheWay.{way_under}
use Rattle.ft_locks.proofs.blocking.note_entries.Given as goal

abbrev pub invariant-loop-key : goal.invariant-loop-key
invariant-loop-key l = (u : ℕ) →
    finite.contains_key l.found u ≡ (finite.contains_key l.initial.found u || list_any (λ key. way_under (against l.asker.rule l.forest l.asker.txn) l.cells key l.mode u) (take l.key-index l.key-items))
