use Rattle.std.proofs.Common.{codes}
use Rattle.clap.specs.Words.{found_of}
use Rattle.ft_command.proofs.Choosing.{flag_read}
use Rattle.ft_command.proofs.choice.asked_save.Goals as goal

pub returns : goal.returns
returns c =
    let found = found_of c.args.found.now in
    record {
      set_id = flag_read found (codes "set-id") c.get_flag.result c.get_flag.ensures.none c.get_flag.ensures.value c.get_flag.ensures.other;
      no_owners = flag_read found (codes "no-owners") c.get_flag-2.result c.get_flag-2.ensures.none c.get_flag-2.ensures.value c.get_flag-2.ensures.other;
      quiet = flag_read found (codes "quiet") c.get_flag-3.result c.get_flag-3.ensures.none c.get_flag-3.ensures.value c.get_flag-3.ensures.other;
      sync = flag_read found (codes "sync") c.get_flag-4.result c.get_flag-4.ensures.none c.get_flag-4.ensures.value c.get_flag-4.ensures.other;
      into = flag_read found (codes "into") c.get_flag-5.result c.get_flag-5.ensures.none c.get_flag-5.ensures.value c.get_flag-5.ensures.other;
      remove = flag_read found (codes "remove") c.get_flag-6.result c.get_flag-6.ensures.none c.get_flag-6.ensures.value c.get_flag-6.ensures.other;
      dry_run = flag_read found (codes "dry-run") c.get_flag-7.result c.get_flag-7.ensures.none c.get_flag-7.ensures.value c.get_flag-7.ensures.other;
    }
