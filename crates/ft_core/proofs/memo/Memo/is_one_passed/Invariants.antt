use Rattle.std.proofs.Common.{drop}
use Rattle.ft_tree.specs.Fronts.{front_entries}
use Rattle.ft_core.specs.Memos.{AreElsewhere}
use Rattle.ft_core.proofs.memo.Memo.is_one_passed.Given as goal

-- if those that are left are elsewhere, so are all
abbrev pub invariant-loop-edit : goal.invariant-loop-edit
invariant-loop-edit l = AreElsewhere (front_entries l.self.front) (drop l.edit-index (drop 2 l.edits)) → AreElsewhere (front_entries l.self.front) (drop 2 l.edits)
