use Rattle.std.proofs.Common.{◌≡◌, ◌≢◌, ◌+◌, ℕ, length}
use Rattle.ft_owned_lists.specs.OwnedLists.{list_in}
use Rattle.ft_undo.specs.Logs.{is_open, AreOpen}
use Rattle.ft_core.specs.Taking.{taken_back, CanTakeBack}
use Rattle.ft_core.proofs.parts.Parts.take_list.Given as goal

-- what is left of the list can be taken back, and then all is
abbrev pub invariant-loop-logged : goal.invariant-loop-logged
invariant-loop-logged l = record {
  can : CanTakeBack (list_in l.self.logs l.fn.txn) l.self.tree;
  others : l.self ≡ record l.initial.self { tree = l.self.tree; logs = l.self.logs };
  cells : taken_back (list_in l.self.logs l.fn.txn) l.self.tree ≡ taken_back (list_in l.initial.self.logs l.fn.txn) l.initial.self.tree;
  lists : (x : ℕ) → x ≢ l.fn.txn → list_in l.self.logs x ≡ list_in l.initial.self.logs x;
  opened : AreOpen l.self.logs (is_open l.initial.self.logs);
  counted : l.count + length (list_in l.self.logs l.fn.txn) ≡ length (list_in l.initial.self.logs l.fn.txn);
}

abbrev pub decreases-loop-logged : goal.decreases-loop-logged
decreases-loop-logged l = length (list_in l.self.logs l.fn.txn)
