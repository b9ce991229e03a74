use Rattle.std.proofs.Common.{codes, refl}
use Rattle.clap.specs.Words.{found_of, rows_of}
use Rattle.ft_command.proofs.choice.save_choice.Goals as goal

pub returns-in-Some : goal.returns-in-Some
returns-in-Some c = (rows_of (found_of c.args.found.now), refl, c.in-Some.ensures, c.asked_save-how.ensures, c.lacks_into.ensures.no c.if-lacks_into.false, c.in-Ok.ensures.ok)

pub returns-then-lacks_into : goal.returns-then-lacks_into
returns-then-lacks_into c = c.lacking_into.ensures (rows_of (found_of c.args.found.now)) (c.asked_save-how.result, c.asked_save-how.ensures, c.lacks_into.ensures.yes c.if-lacks_into.true)

pub returns-in-Err : goal.returns-in-Err
returns-in-Err c = c.misused.ensures (codes "save") c.in-Err.ensures.err
