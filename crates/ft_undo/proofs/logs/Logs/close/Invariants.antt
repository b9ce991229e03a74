use Rattle.std.proofs.Common.{◌≡◌, ◌≢◌, ℕ, length}
use Rattle.ft_owned_lists.specs.OwnedLists.{list_in}
use Rattle.ft_undo.specs.Logs.{is_open, AreOpen}
use Rattle.ft_undo.proofs.logs.Logs.close.Given as goal

-- nothing else changes
abbrev pub invariant-loop : goal.invariant-loop
invariant-loop l = record {
  others : (x : ℕ) → x ≢ l.txn → list_in l.self x ≡ list_in l.fn.self x;
  opened : AreOpen l.self (is_open l.fn.self);
}

abbrev pub decreases-loop : goal.decreases-loop
decreases-loop l = length (list_in l.self l.txn)
