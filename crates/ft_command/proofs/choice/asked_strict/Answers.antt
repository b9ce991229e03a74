use Rattle.std.proofs.Common.{codes}
use Rattle.clap.specs.Words.{found_of}
use Rattle.ft_command.proofs.Choosing.{flag_read}
use Rattle.ft_command.proofs.choice.asked_strict.Goals as goal

pub returns : goal.returns
returns c = flag_read (found_of c.args.found.now) (codes "strict") c.get_flag.result c.get_flag.ensures.none c.get_flag.ensures.value c.get_flag.ensures.other
