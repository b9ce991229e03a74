use Rattle.std.proofs.Common.{ap, ap₂, ◌∙◌}
use Rattle.std.proofs.lemmas.Result.{IfOk-weaker}
use Rattle.clap.specs.Words.{App, with_subcommand}
use Rattle.ft_command.proofs.choice.program.Goals as goal

pub returns : goal.returns
returns c = IfOk-weaker c.subcommand.result _ _ (λ command h. h.shape c.in_ok-jobs.ensures.local ∙ ap₂ with_subcommand c.in_ok-with_folders.ensures (ap (λ (a : App). a.top) c.in_ok-jobs.ensures.app)) c.subcommand.ensures
