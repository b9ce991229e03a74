use Rattle.std.proofs.Common.{codes, refl}
use Rattle.clap.specs.Words.{found_of, rows_of}
use Rattle.ft_command.proofs.choice.dot_choice.Goals as goal

pub returns-in-Ok : goal.returns-in-Ok
returns-in-Ok c = (rows_of (found_of c.args.found.now), refl, (c.in-Ok.field-0, c.in-Ok.ensures.ok))

pub returns-in-Err : goal.returns-in-Err
returns-in-Err c = c.misused.ensures (codes "dot") c.in-Err.ensures.err
