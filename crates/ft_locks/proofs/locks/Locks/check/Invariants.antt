use Rattle.std.proofs.Common.{◌≡◌, ◌≤◌, ℕ, true, take}
use Rattle.std.specs.List.{list_any}
use Rattle.std.specs.FinMap as finite
use Rattle.ft_lock_rules.specs.Blocking.{against, blocks}
use Rattle.ft_lock_rules.specs.Surveys.{HoldsAll}
use Rattle.ft_locks.proofs.locks.Locks.check.Given as goal

abbrev pub invariant-loop-access : goal.invariant-loop-access
invariant-loop-access l = record {
  noted : (u : ℕ) → finite.contains_key l.found u ≡ list_any (λ a. blocks (against l.rule l.forest l.txn) l.self-inside.holdings.cells a u) (take l.access-index l.accesses);
  few : l.held ≤ l.access-index;
  all : l.has_all ≡ true → l.held ≡ l.access-index;
  held : HoldsAll l.self-inside.holdings.cells l.txn (take l.held l.accesses);
}
