use Rattle.std.proofs.Common.{codes, subst}
use Rattle.clap.specs.Words.{found_of, one_of, rows_of}
use Rattle.ft_command.specs.CommandLine.{IsFlag}
use Rattle.ft_command.proofs.Choosing.{flag_read}
use Rattle.ft_command.proofs.choice.asked_rule.Goals as goal

pub returns-then-get_flag : goal.returns-then-get_flag
returns-then-get_flag c =
    let found = found_of c.args.found.now in
    subst (IsFlag (one_of (codes "moss") (rows_of found))) c.if-get_flag.true (flag_read found (codes "moss") c.get_flag.result c.get_flag.ensures.none c.get_flag.ensures.value c.get_flag.ensures.other)

pub returns-else-get_flag : goal.returns-else-get_flag
returns-else-get_flag c =
    let found = found_of c.args.found.now in
    subst (IsFlag (one_of (codes "moss") (rows_of found))) c.if-get_flag.false (flag_read found (codes "moss") c.get_flag.result c.get_flag.ensures.none c.get_flag.ensures.value c.get_flag.ensures.other)
