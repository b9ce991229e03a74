use Rattle.std.proofs.Common.{List, refl, sym, subst, rules}
use Rattle.ft_lock_rules.specs.declared.line.LockLine.{LockLine}
use Rattle.ft_core.specs.Reports.{AreLockLines}
use Rattle.ft_line.specs.Reports.{locks_text}
use Rattle.ft_line.proofs.reporting.locks_report.Goals as goal

pub returns-in_ok-text-in-Ok : goal.returns-in_ok-text-in-Ok
returns-in_ok-text-in-Ok c =
    let state = c.args.core.now.state in
    let locks = c.as_slice.result.now in
    let are = subst (λ (lines : List LockLine). AreLockLines state lines) (sym c.as_slice.ensures.value) c.in-Ok.ensures in
    (locks_text locks, (locks, are, refl), search rules)
