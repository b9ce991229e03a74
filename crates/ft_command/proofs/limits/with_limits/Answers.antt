use Rattle.std.proofs.Common.{◌∙◌, ◌||◌, ap, ap₂}
use Rattle.std.proofs.lemmas.Result.{IfOk-weaker}
use Rattle.clap.specs.Words.{app_of, with_rule}
use Rattle.ft_command.proofs.limits.with_limits.Goals as goal

pub returns-clause-app : goal.returns-clause-app
returns-clause-app c =
    let one_is = c.in_ok-arg.ensures.shape c.limit_arg.ensures.local ∙ ap (with_rule (app_of c.args.command)) c.limit_arg.ensures.rule in
    let two_is = c.in_ok-arg-2.ensures.shape c.limit_arg-2.ensures.local ∙ ap₂ with_rule one_is c.limit_arg-2.ensures.rule in
    let three_is = c.in_ok-arg-3.ensures.shape c.limit_arg-3.ensures.local ∙ ap₂ with_rule two_is c.limit_arg-3.ensures.rule in
    IfOk-weaker c.arg-4.result _ _ (λ command h. h.shape c.limit_arg-4.ensures.local ∙ ap₂ with_rule three_is c.limit_arg-4.ensures.rule) c.arg-4.ensures

pub returns-clause-local : goal.returns-clause-local
returns-clause-local c bare =
    let one = c.in_ok-arg.ensures.globals ∙ ap₂ (λ a b. a || b) bare c.limit_arg.ensures.local in
    let two = c.in_ok-arg-2.ensures.globals ∙ ap₂ (λ a b. a || b) one c.limit_arg-2.ensures.local in
    let three = c.in_ok-arg-3.ensures.globals ∙ ap₂ (λ a b. a || b) two c.limit_arg-3.ensures.local in
    IfOk-weaker c.arg-4.result _ _ (λ command h. h.globals ∙ ap₂ (λ a b. a || b) three c.limit_arg-4.ensures.local) c.arg-4.ensures
