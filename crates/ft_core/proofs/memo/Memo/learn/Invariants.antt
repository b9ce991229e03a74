use Rattle.std.proofs.Common.{◌≡◌, take}
use Rattle.ft_path.specs.FilePath.{components}
use Rattle.ft_path.specs.Judged.{EndsInSlash}
use Rattle.ft_tree.specs.Views.{view_of}
use Rattle.ft_tree.specs.Fronts.{LeadAlong, entries_along, end_along}
use Rattle.ft_posix.specs.Besides.{reads_of}
use Rattle.ft_core.proofs.memo.Memo.learn.Given as goal

-- the text is the front's, and the names so far lead to the directories so far, by these entries
abbrev pub invariant-loop-name : goal.invariant-loop-name
invariant-loop-name l = record {
  slashed : EndsInSlash l.self.front.text.items;
  names : components l.self.front.text.items ≡ l.name-items;
  same : l.cursor ≡ l.fn.tree;
  way : LeadAlong (view_of l.fn.tree) 1 (take l.name-index l.name-items) l.self.front.dirs.items;
  end : l.dir ≡ end_along 1 l.self.front.dirs.items;
  reads : l.reads.items ≡ reads_of (entries_along 1 (take l.name-index l.name-items) l.self.front.dirs.items);
  txn : l.self.txn ≡ l.fn.self.txn;
}
