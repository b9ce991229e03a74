use Rattle.std.proofs.Common.{ap, ap₂, ◌∙◌}
use Rattle.std.proofs.lemmas.Result.{IfOk-weaker}
use Rattle.clap.specs.Words.{App, with_subcommand}
use Rattle.ft_command.proofs.choice.with_filters.Goals as goal

pub returns : goal.returns
returns c =
    let with_play = c.in_ok-subcommand.ensures.shape c.in_ok-play.ensures.local ∙ ap₂ with_subcommand c.in_ok-named.ensures (ap (λ (a : App). a.top) c.in_ok-play.ensures.app) in
    IfOk-weaker c.subcommand-2.result _ _ (λ command h. h.shape c.in_ok-dot.ensures.local ∙ ap₂ with_subcommand with_play (ap (λ (a : App). a.top) c.in_ok-dot.ensures.app)) c.subcommand-2.ensures
