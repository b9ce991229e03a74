use Rattle.std.proofs.Common.{◌≡◌, ◌++◌, drop}
use Rattle.ft_core.specs.Reports.{with_parents}
use Rattle.ft_core.proofs.reports.list_with_parents.Given as goal

-- what is listed so far and what is left are all
abbrev pub invariant-loop-child : goal.invariant-loop-child
invariant-loop-child l = l.list.items ++ with_parents l.forest (drop l.child-index l.txns) ≡ l.initial.list.items ++ with_parents l.forest l.txns
