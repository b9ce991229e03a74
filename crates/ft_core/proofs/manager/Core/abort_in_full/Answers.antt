use Rattle.std.proofs.Common.{None, refl, ap, ◌∙◌}
use Rattle.ft_core.specs.States.{State, tree_of}
use Rattle.ft_core.specs.Steps.{exact_rule}
use Rattle.ft_core.proofs.Ended.{step-abort, live-refused}
use Rattle.ft_core.proofs.manager.Core.abort_in_full.Goals as goal

pub returns-clause-step : goal.returns-clause-step
returns-clause-step c =
    step-abort exact_rule c.args.self.now.state c.abort_live.new.self.state c.args.txn c.abort_live.result.calls c.in_ok-check_live.ensures.live c.abort_live.ensures.calls c.abort_live.ensures.ended

pub returns-clause-alone : goal.returns-clause-alone
returns-clause-alone c = λ before alone. (refl, ap (λ (s : State). tree_of s) c.abort_live.ensures.ended ∙ c.abort_live.ensures.alone before alone)

pub returns-in_err-check_live-clause-alone : goal.returns-in_err-check_live-clause-alone
returns-in_err-check_live-clause-alone c = λ before alone. absurd (live-refused c.args.self.now.state c.args.txn c.in_err-check_live.field-0.0 alone.live (c.in_err-check_live.ensures.refused None))
