use Rattle.std.proofs.Common.{Bool, subst}
use Rattle.nuzolged.specs.Opened.{HasTurns}
use Rattle.nuzolged.proofs.trees.new_tree.Goals as goal

pub returns-in-Ok-clause-turns : goal.returns-in-Ok-clause-turns
returns-in-Ok-clause-turns c = subst (λ (fair : Bool). HasTurns fair c.in-Ok.handle.value) c.fair_of.ensures c.in-Ok.ensures.turns
