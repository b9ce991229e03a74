use Rattle.std.proofs.Common.{subst}
use Rattle.std.proofs.lemmas.Result.{err_from_is_err_and}
use Rattle.ft_cells.specs.declared.limits.TreeLimits.{TreeLimits}
use Rattle.ft_posix.specs.Descriptors.{with_open, is_writable, write_open}
use Rattle.ft_posix.specs.Computes.{Computes}
use Rattle.ft_posix.specs.Intended.{intended}
use Rattle.ft_calls.proofs.Opened.{opened_on, opened_lost}
use Rattle.ft_calls.proofs.draft.Draft.write.Goals as goal

pub returns-in_err-description-clause-plans : goal.returns-in_err-description-clause-plans
returns-in_err-description-clause-plans c =
    let p = err_from_is_err_and c.from_residual.result c.from_residual.ensures.1 in
    rw (p.1, p.2) (opened_lost c.args.self.now.look.now c.args.fd is_writable (write_open c.args.self.now.look.now.cells.limits c.args.fd c.args.bytes.now) c.open_for.new.look c.in_err-description.field-0.0 c.in_err-description.ensures)

pub returns-clause-plans : goal.returns-clause-plans
returns-clause-plans c =
    let on = c.write_open in
    subst (λ (l : TreeLimits). Computes c.args.self.now.look.now (with_open c.args.fd is_writable (write_open l c.args.fd c.args.bytes.now)) on.new.self.look.now (intended on.new.self.edits.now on.result)) c.limits-limits.ensures.are
    (opened_on c.args.self.now.look.now c.args.fd is_writable (write_open c.limits-limits.result c.args.fd c.args.bytes.now) c.open_for.new.look c.in_ok-description.description c.in_ok-description.ensures on.new.self.look.now (intended on.new.self.edits.now on.result)
    on.ensures.plans)
