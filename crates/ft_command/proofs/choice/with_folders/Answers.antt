use Rattle.std.proofs.Common.{ap, ap₂, ◌∙◌}
use Rattle.std.proofs.lemmas.Result.{IfOk-weaker}
use Rattle.clap.specs.Words.{App, with_subcommand}
use Rattle.ft_command.proofs.choice.with_folders.Goals as goal

pub returns : goal.returns
returns c =
    let with_load = c.in_ok-subcommand.ensures.shape c.in_ok-load.ensures.local ∙ ap₂ with_subcommand c.in_ok-with_filters.ensures (ap (λ (a : App). a.top) c.in_ok-load.ensures.app) in
    IfOk-weaker c.subcommand-2.result _ _ (λ command h. h.shape c.in_ok-save.ensures.local ∙ ap₂ with_subcommand with_load (ap (λ (a : App). a.top) c.in_ok-save.ensures.app)) c.subcommand-2.ensures
