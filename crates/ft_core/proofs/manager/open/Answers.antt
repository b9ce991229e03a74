use Rattle.std.proofs.Common.{refl, ap, ◌∙◌}
use Rattle.ft_undo.specs.Logs.{is_open}
use Rattle.ft_lock_rules.specs.Locks.{is_opened}
use Rattle.ft_core.proofs.Opening.{open-other, logs-other, locks-same, locks-opened, one-noted, ready-noted}
use Rattle.ft_core.proofs.manager.open.Goals as goal

pub returns-in_err-open-2-clause-same : goal.returns-in_err-open-2-clause-same
returns-in_err-open-2-clause-same c =
    one-noted c.args.journal.now c.open.new.self _ _ _ _ c.args.next c.in_ok-open.ensures.ok
    (locks-same c.args.locks.now c.open-2.new.self c.in_err-open-2.ensures.err) (λ t e. ap (λ x. is_opened x t) c.in_err-open-2.ensures.err ∙ e) (λ x. refl) (λ t e. e)

pub returns-in_err-open-3-clause-same : goal.returns-in_err-open-3-clause-same
returns-in_err-open-3-clause-same c =
    one-noted c.args.journal.now c.open.new.self _ _ _ _ c.args.next c.in_ok-open.ensures.ok
    (locks-opened c.args.locks.now c.open-2.new.self c.args.next c.in_ok-open-2.ensures.ok) (open-other _ _ _ c.in_ok-open-2.ensures.ok) c.open-3.ensures.lists (λ t e. ap (λ x. is_open x t) c.in_err-open-3.ensures.err ∙ e)

pub returns-clause-same : goal.returns-clause-same
returns-clause-same c =
    one-noted c.args.journal.now c.open.new.self _ _ _ _ c.args.next c.in_ok-open.ensures.ok
    (locks-opened c.args.locks.now c.open-2.new.self c.args.next c.in_ok-open-2.ensures.ok) (open-other _ _ _ c.in_ok-open-2.ensures.ok) c.open-3.ensures.lists (logs-other _ _ _ c.in_ok-open-3.ensures.opened)

pub returns-clause-ready : goal.returns-clause-ready
returns-clause-ready c = ready-noted c.args.journal.now c.open.new.self _ _ _ _ c.args.next c.in_ok-open.ensures.ok c.in_ok-open-2.ensures.ok c.in_ok-open-3.ensures.opened
