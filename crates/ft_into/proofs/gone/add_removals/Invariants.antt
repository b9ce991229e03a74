use Rattle.std.proofs.Common.{◌≡◌, [], ◌∷◌}
use Rattle.ft_into.specs.Removes.{TakesAll}
use Rattle.ft_into.proofs.gone.add_removals.Given as goal

-- these steps, in turn, have removed all but what is left
abbrev pub invariant-loop-turns : goal.invariant-loop-turns
invariant-loop-turns g l = record {
  taken : TakesAll (g.S.Source.tells l.fn.disk) (l.fn.place ∷ []) l.removals.items l.left.items;
  steps : l.steps ≡ l.initial.steps;
}

abbrev pub decreases-loop-turns : goal.decreases-loop-turns
decreases-loop-turns g l = l.turns
