-- What a command line says of the pace of jobs.
use Rattle.std.proofs.Common.{ℕ, ◌≤◌, List}
use Rattle.ft_command.specs.declared.choice.Choice.{Choice}
use Rattle.ft_command.specs.declared.choice.Choice.TheVariants.{Play, Dot, Load, Save, Jobs, Help, Usage, Fault}
use Rattle.ft_command.specs.CommandLine.{ChoiceOf}

-- if jobs are to be run, a call may be asked for
abbrev pub HasTurns : Choice → Type 0
HasTurns (Play strict rule after limits) = Unit {0}
HasTurns Dot = Unit {0}
HasTurns (Load dir at skip check set_id quiet limits) = Unit {0}
HasTurns (Save dir how limits) = Unit {0}
HasTurns (Jobs file pace quiet rule after limits) = 1 ≤ pace.turns
HasTurns (Help text) = Unit {0}
HasTurns (Usage text) = Unit {0}
HasTurns Fault = Unit {0}

-- so it is where words ask for them
pub turns_asked : (words : List (List ℕ)) (choice : Choice) → ChoiceOf words choice → HasTurns choice
turns_asked words (Play strict rule after limits) given = tt
turns_asked words Dot given = tt
turns_asked words (Load dir at skip check set_id quiet limits) given = tt
turns_asked words (Save dir how limits) given = tt
turns_asked words (Jobs file pace quiet rule after limits) given = given.1.2.2
turns_asked words (Help text) given = tt
turns_asked words (Usage text) given = tt
turns_asked words Fault given = tt
