use Rattle.std.proofs.Common.{subst, rules}
use Rattle.std.proofs.lemmas.Int.{to_z-of_z}
use Rattle.std.proofs.lemmas.Result.{err_from_is_err_and}
use mir.Syntax.{w64}
use Rattle.ft_cells.specs.declared.limits.TreeLimits.{TreeLimits}
use Rattle.ft_posix.specs.Descriptors.{with_open, is_writable, ftruncate_open}
use Rattle.ft_posix.specs.Computes.{Computes}
use Rattle.ft_posix.specs.Intended.{intended}
use Rattle.ft_calls.proofs.Opened.{opened_on, opened_lost}
use Rattle.ft_calls.proofs.draft.Draft.ftruncate.Goals as goal

pub returns-in_err-description-clause-plans : goal.returns-in_err-description-clause-plans
returns-in_err-description-clause-plans c =
    let p = err_from_is_err_and c.from_residual.result c.from_residual.ensures.1 in
    rw (p.1, p.2) (opened_lost c.args.self.now.look.now c.args.fd is_writable (ftruncate_open c.args.self.now.look.now.cells.limits c.args.length) c.open_for.new.look c.in_err-description.field-0.0 c.in_err-description.ensures)

pub returns-clause-plans : goal.returns-clause-plans
returns-clause-plans c =
    let on = c.ftruncate_open in
    subst (λ (l : TreeLimits). Computes c.args.self.now.look.now (with_open c.args.fd is_writable (ftruncate_open l c.args.length)) on.new.self.look.now (intended on.new.self.edits.now on.result)) c.limits-limits.ensures.are
    (opened_on c.args.self.now.look.now c.args.fd is_writable (ftruncate_open c.limits-limits.result c.args.length) c.open_for.new.look c.in_ok-description.description c.in_ok-description.ensures on.new.self.look.now (intended on.new.self.edits.now on.result)
    (subst (λ z. Computes c.open_for.new.look (ftruncate_open c.limits-limits.result z c.in_ok-description.description) on.new.self.look.now (intended on.new.self.edits.now on.result)) (to_z-of_z w64 c.args.length (search rules)) on.ensures.plans))
