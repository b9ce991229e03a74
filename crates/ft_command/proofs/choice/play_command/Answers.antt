use Rattle.std.proofs.Common.{◌≡◌, ◌∙◌, ◌||◌, false, ap, ap₂}
use Rattle.std.proofs.lemmas.Result.{IfOk-weaker}
use Rattle.clap.specs.Simple.{app_of_fields}
use Rattle.clap.specs.Words.{with_rule}
use Rattle.clap.specs.declared.builder.command.Command.TheViews.{out-Command}
use Rattle.ft_command.specs.Limits.{limited}
use Rattle.ft_command.proofs.choice.play_command.Goals as goal

pub returns-clause-app : goal.returns-clause-app
returns-clause-app c =
    let one_is = c.in_ok-arg.ensures.shape c.strict_arg.ensures.local ∙ ap₂ with_rule (ap app_of_fields c.after_help.ensures ∙ ap app_of_fields c.about.ensures ∙ c.new.ensures.app) c.strict_arg.ensures.rule in
    let two_is = c.in_ok-arg-2.ensures.shape c.moss_arg.ensures.local ∙ ap₂ with_rule one_is c.moss_arg.ensures.rule in
    let all_is = c.in_ok-command.ensures.shape c.after_arg.ensures.local ∙ ap₂ with_rule two_is c.after_arg.ensures.rule in
    IfOk-weaker c.with_limits.result _ _ (λ command h. h ∙ ap limited all_is) c.with_limits.ensures.app

pub returns-clause-local : goal.returns-clause-local
returns-clause-local c =
    let bare : (out-Command c.after_help.result).has_globals ≡ false = ap (λ f. f.has_globals) c.after_help.ensures ∙ ap (λ f. f.has_globals) c.about.ensures ∙ c.new.ensures.local in
    let one = c.in_ok-arg.ensures.globals ∙ ap₂ (λ a b. a || b) bare c.strict_arg.ensures.local in
    let two = c.in_ok-arg-2.ensures.globals ∙ ap₂ (λ a b. a || b) one c.moss_arg.ensures.local in
    c.with_limits.ensures.local (c.in_ok-command.ensures.globals ∙ ap₂ (λ a b. a || b) two c.after_arg.ensures.local)
