use Rattle.std.proofs.Common.{◌≡◌, ◌+◌, ◌-◌, ◌^◌, List, length}
use Rattle.std.specs.List.{flat_map}
use Rattle.ft_copy.specs.Asked.{DoesAll}
use Rattle.ft_copy.specs.Runs.{Visit, WalksTo, asked_of}
use Rattle.ft_copy.specs.Walks.{standing}
use Rattle.ft_copy.proofs.copying.visit_all.Given as goal

-- places were visited one after another, and for just that the target was asked
abbrev pub invariant-loop-turns : goal.invariant-loop-turns
invariant-loop-turns g l =
    (visits : List Visit) × WalksTo l.fn.limits (g.S.Source.tells l.fn.source) (standing l.initial.walk) visits (standing l.walk)
    × DoesAll g.T.Target.does l.initial.target (flat_map asked_of visits) l.target × (length visits + l.turns ≡ 2 ^ 64 - 1)

abbrev pub decreases-loop-turns : goal.decreases-loop-turns
decreases-loop-turns g l = l.turns
