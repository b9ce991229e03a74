use Rattle.std.proofs.Common.{◌≡◌, ◌∙◌, ◌||◌, false, ap, ap₂}
use Rattle.std.proofs.lemmas.Result.{IfOk-weaker}
use Rattle.clap.specs.Simple.{app_of_fields}
use Rattle.clap.specs.Words.{with_rule}
use Rattle.clap.specs.declared.builder.command.Command.TheViews.{out-Command}
use Rattle.ft_command.specs.Limits.{limited}
use Rattle.ft_command.proofs.choice.jobs_command.Goals as goal

pub returns-clause-app : goal.returns-clause-app
returns-clause-app c =
    let one_is = c.in_ok-arg.ensures.shape c.file_arg.ensures.local ∙ ap₂ with_rule (ap app_of_fields c.after_help.ensures ∙ ap app_of_fields c.about.ensures ∙ c.new.ensures.app) c.file_arg.ensures.rule in
    let two_is = c.in_ok-arg-2.ensures.shape c.turns_arg.ensures.local ∙ ap₂ with_rule one_is c.turns_arg.ensures.rule in
    let three_is = c.in_ok-arg-3.ensures.shape c.quiet_arg.ensures.local ∙ ap₂ with_rule two_is c.quiet_arg.ensures.rule in
    let four_is = c.in_ok-arg-4.ensures.shape c.moss_arg.ensures.local ∙ ap₂ with_rule three_is c.moss_arg.ensures.rule in
    let five_is = c.in_ok-arg-5.ensures.shape c.after_arg.ensures.local ∙ ap₂ with_rule four_is c.after_arg.ensures.rule in
    let six_is = c.in_ok-arg-6.ensures.shape c.threads_arg.ensures.local ∙ ap₂ with_rule five_is c.threads_arg.ensures.rule in
    let all_is = c.in_ok-command.ensures.shape c.retries_arg.ensures.local ∙ ap₂ with_rule six_is c.retries_arg.ensures.rule in
    IfOk-weaker c.with_limits.result _ _ (λ command h. h ∙ ap limited all_is) c.with_limits.ensures.app

pub returns-clause-local : goal.returns-clause-local
returns-clause-local c =
    let bare : (out-Command c.after_help.result).has_globals ≡ false = ap (λ f. f.has_globals) c.after_help.ensures ∙ ap (λ f. f.has_globals) c.about.ensures ∙ c.new.ensures.local in
    let one = c.in_ok-arg.ensures.globals ∙ ap₂ (λ a b. a || b) bare c.file_arg.ensures.local in
    let two = c.in_ok-arg-2.ensures.globals ∙ ap₂ (λ a b. a || b) one c.turns_arg.ensures.local in
    let three = c.in_ok-arg-3.ensures.globals ∙ ap₂ (λ a b. a || b) two c.quiet_arg.ensures.local in
    let four = c.in_ok-arg-4.ensures.globals ∙ ap₂ (λ a b. a || b) three c.moss_arg.ensures.local in
    let five = c.in_ok-arg-5.ensures.globals ∙ ap₂ (λ a b. a || b) four c.after_arg.ensures.local in
    let six = c.in_ok-arg-6.ensures.globals ∙ ap₂ (λ a b. a || b) five c.threads_arg.ensures.local in
    c.with_limits.ensures.local (c.in_ok-command.ensures.globals ∙ ap₂ (λ a b. a || b) six c.retries_arg.ensures.local)
