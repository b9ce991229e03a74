use Rattle.std.proofs.Common.{true, Ok, refl}
use Rattle.std.proofs.lemmas.Result.{err_from_is_err_and}
use Rattle.ft_posix.specs.Files.{truncate_spot}
use Rattle.ft_posix.specs.Intended.{intended}
use Rattle.ft_posix.proofs.Looking.{comes_lost, comes_on}
use Rattle.ft_calls.proofs.draft.Draft.truncate_to.Goals as goal

pub returns-in_err-spot-clause-plans : goal.returns-in_err-spot-clause-plans
returns-in_err-spot-clause-plans c =
    let p = err_from_is_err_and c.from_residual.result c.from_residual.ensures.1 in
    rw (p.1, p.2) (comes_lost c.args.self.now.look.now (Ok c.args.parts.now) (truncate_spot c.args.size) true c.args.parts.now refl c.walk.new.self c.in_err-spot.field-0.0 c.in_err-spot.ensures)

pub returns-clause-plans : goal.returns-clause-plans
returns-clause-plans c =
    (comes_on c.args.self.now.look.now (Ok c.args.parts.now) (truncate_spot c.args.size) true c.args.parts.now refl c.walk.new.self c.in_ok-spot.spot c.in_ok-spot.ensures c.truncate_spot.new.self.look.now (intended c.truncate_spot.new.self.edits.now c.truncate_spot.result) c.truncate_spot.ensures.plans)
