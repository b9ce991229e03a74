use Rattle.std.specs.BTreeMap.{btree_map_len}
use Rattle.ft_into.proofs.differences.left_in.Given as goal

abbrev pub invariant-loop-path : goal.invariant-loop-path
invariant-loop-path l = Unit {0}

abbrev pub decreases-loop-path : goal.decreases-loop-path
decreases-loop-path l = btree_map_len l.names.nodes
