use Rattle.std.proofs.Common.{◌∙◌}
use Rattle.ft_core.proofs.Memos.{forgotten}
use Rattle.ft_core.specs.Limits.{greatest_limits, are_within}
use Rattle.ft_core.proofs.Known.{call_laws, lock_laws}
use Rattle.ft_core.proofs.Cores.{core-new}
use Rattle.ft_core.proofs.manager.Core.within.Goals as goal

pub invariant_of-result : goal.invariant_of-result
invariant_of-result c = (
  (core-new call_laws lock_laws c.args.rule c.args.limits.calls c.of_forest.result c.of_tree.result c.in_ok-tree.tree c.in_ok-tree.ensures.cells c.in_ok-tree.ensures.sound c.in_ok-tree.ensures.free c.new-3.result c.new-3.ensures.lists
      c.new.result c.new.ensures c.new-2.result c.new-2.ensures c.new-journal.result c.new-journal.ensures
      ((λ x. are_within (record {
        file_size = (c.of_tree.ensures x).file_size;
        links = (c.of_tree.ensures x).links;
        depth = c.of_forest.ensures.depth x;
        transactions = c.of_forest.ensures.transactions x;
        calls = c.args.limits.calls;
      }) greatest_limits) ∙ c.requires)),
  forgotten c.new-memo.result _ _ c.new-memo.ensures,
)
