use Rattle.std.proofs.Common.{ap, ◌∙◌}
use Rattle.std.proofs.lemmas.Result.{IfOk-weaker}
use Rattle.clap.specs.Simple.{app_of_fields}
use Rattle.ft_command.specs.Limits.{limited}
use Rattle.ft_command.proofs.choice.dot_command.Goals as goal

pub returns-clause-app : goal.returns-clause-app
returns-clause-app c = IfOk-weaker c.with_limits.result _ _ (λ command h. h ∙ ap limited (ap app_of_fields c.about-command.ensures ∙ c.new.ensures.app)) c.with_limits.ensures.app

pub returns-clause-local : goal.returns-clause-local
returns-clause-local c = c.with_limits.ensures.local (ap (λ f. f.has_globals) c.about-command.ensures ∙ c.new.ensures.local)
