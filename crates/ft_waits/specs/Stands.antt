-- The state of a walk. No public clause cites it.
use Rattle.std.specs.Prelude.{List}
use Rattle.ft_waits.specs.declared.walk.Step.{Step}
use Rattle.ft_waits.specs.declared.walk.Walk.{Walk}
use Rattle.ft_waits.specs.Walk.{IsWalk}

-- the walk, if these steps are on the path
abbrev pub Stands : Walk → List Step → Type 0
Stands walk steps = IsWalk walk.edges.now walk.unseen walk.ranks steps
