use Rattle.std.proofs.Common.{◌≡◌, ◌++◌, List}
use Rattle.std.specs.BTreeMap.{btree_map_len}
use Rattle.ft_into.specs.declared.step.Step.{Step}
use Rattle.ft_into.specs.Knows.{Names}
use Rattle.ft_into.specs.Removes.{RemovesNames}
use Rattle.ft_into.specs.Views.{names_of}
use Rattle.ft_into.proofs.steps.Steps.remove_rest.Given as goal

-- the steps so far remove what is at the names that were taken
abbrev pub invariant-loop-path : goal.invariant-loop-path
invariant-loop-path g l = record {
  removed : (taken : Names) × (removals : List Step) × (names_of l.initial.names ≡ names_of l.names ++ taken) × RemovesNames (g.S.Source.tells l.fn.disk) taken removals
      × (l.self.items.items ≡ l.initial.self.items.items ++ removals);
}

abbrev pub decreases-loop-path : goal.decreases-loop-path
decreases-loop-path g l = btree_map_len l.names.nodes
