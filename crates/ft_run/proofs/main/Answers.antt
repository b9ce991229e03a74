use Rattle.std.proofs.Common.{sym, subst}
use Rattle.ft_command.specs.declared.choice.Choice.{Choice}
use Rattle.ft_run.proofs.Paced.{HasTurns, turns_asked}
use Rattle.ft_run.proofs.main.Goals as goal
use Rattle.ft_run.proofs.main.Goals.{in-Ok, in-Err}

pub invariant_of-jobs_status : goal.invariant_of-jobs_status
invariant_of-jobs_status g c =
    let asked : HasTurns c.match-words_given.choice = elim c.match-words_given.branch [
      | in-Ok w ↦ subst (λ (choice : Choice). HasTurns choice) (sym w.choice-is) (turns_asked _ _ w.choose-choice.ensures)
      | in-Err w ↦ subst (λ (choice : Choice). HasTurns choice) (sym w.choice-is) tt
    ] in
    record { some = subst (λ (choice : Choice). HasTurns choice) c.in-Jobs.is asked }
