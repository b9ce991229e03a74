use Rattle.std.proofs.Common.{codes}
use Rattle.ft_command.proofs.choice.jobs_choice.Goals as goal

pub returns-in-Err : goal.returns-in-Err
returns-in-Err c = c.misused.ensures (codes "jobs") c.in-Err.ensures.err
