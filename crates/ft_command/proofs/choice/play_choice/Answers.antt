use Rattle.std.proofs.Common.{codes}
use Rattle.ft_command.proofs.choice.play_choice.Goals as goal

pub returns-in-Err : goal.returns-in-Err
returns-in-Err c = c.misused.ensures (codes "play") c.in-Err.ensures.err
