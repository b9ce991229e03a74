use Rattle.std.proofs.Common.{◌≡◌, ◌||◌, ℕ, take}
use Rattle.std.specs.FinMap as finite
use Rattle.ft_lock_rules.specs.Blocking.{against, is_listed_in_way}
use Rattle.ft_locks.proofs.blocking.note_list.Given as goal

abbrev pub invariant-loop-holding : goal.invariant-loop-holding
invariant-loop-holding l = (u : ℕ) → finite.contains_key l.found u ≡ (finite.contains_key l.initial.found u || is_listed_in_way (against l.asker.rule l.forest l.asker.txn) (take l.holding-index l.list) l.mode u)
