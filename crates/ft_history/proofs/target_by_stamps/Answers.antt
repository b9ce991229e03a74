use Rattle.ft_laws.specs.Tiny.{tiny_calls}
use Rattle.ft_laws.proofs.Tiny.{tiny_lawful}
use Rattle.ft_history.proofs.Targets.{target_by_stamps as by_stamps, sub_commits}
use Rattle.ft_history.proofs.target_by_stamps.Goals as goal

pub returns : goal.returns
returns c = record { decides = by_stamps tiny_calls tiny_lawful; commits = sub_commits tiny_calls }
