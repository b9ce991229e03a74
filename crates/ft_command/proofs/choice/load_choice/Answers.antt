use Rattle.std.proofs.Common.{codes, refl}
use Rattle.clap.specs.Words.{found_of, rows_of}
use Rattle.ft_command.proofs.Choosing.{flag_read}
use Rattle.ft_command.proofs.choice.load_choice.Goals as goal

pub returns-in-Some : goal.returns-in-Some
returns-in-Some c =
    let found = found_of c.args.found.now in
    let skip = flag_read found (codes "skip") c.get_flag-skip.result c.get_flag-skip.ensures.none c.get_flag-skip.ensures.value c.get_flag-skip.ensures.other in
    let check = flag_read found (codes "check") c.get_flag-check.result c.get_flag-check.ensures.none c.get_flag-check.ensures.value c.get_flag-check.ensures.other in
    let set_id = flag_read found (codes "set-id") c.get_flag-set_id.result c.get_flag-set_id.ensures.none c.get_flag-set_id.ensures.value c.get_flag-set_id.ensures.other in
    let quiet = flag_read found (codes "quiet") c.get_flag-quiet.result c.get_flag-quiet.ensures.none c.get_flag-quiet.ensures.value c.get_flag-quiet.ensures.other in
    (rows_of found, refl, c.in-Some.ensures, c.in-Ok-asked_place.ensures.ok, skip, check, set_id, quiet, c.in-Ok.ensures.ok)

pub returns-in-Err : goal.returns-in-Err
returns-in-Err c = c.misused.ensures (codes "load") c.in-Err.ensures.err
