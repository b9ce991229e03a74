use Rattle.std.proofs.Common.{◌≡◌, ◌++◌, List, map, length}
use Rattle.ft_into.specs.declared.step.Step.{Step}
use Rattle.ft_into.specs.Carries.{AreRemovals, removing}
use Rattle.ft_into.specs.Makes.{MakesAll}
use Rattle.ft_into.proofs.carrying.Carrying.remove_next.Given as goal

-- the steps so far remove something, and were carried out
abbrev pub invariant-loop-step : goal.invariant-loop-step
invariant-loop-step g l = record {
  removed : (removed : List Step) × MakesAll g.M.Maker.does l.initial.self.maker (map removing removed) l.self.maker × (l.initial.self.rest.now ≡ removed ++ l.rest) × AreRemovals removed;
  is_open : l.self.is_open ≡ l.initial.self.is_open;
}

abbrev pub decreases-loop-step : goal.decreases-loop-step
decreases-loop-step g l = length l.rest
