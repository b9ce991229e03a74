use Rattle.std.proofs.Common.{false}
use Rattle.std.proofs.lemmas.Result.{err_from_is_err_and}
use Rattle.ft_path.specs.FilePath.{parts_of}
use Rattle.ft_posix.specs.Links.{unlink_spot}
use Rattle.ft_posix.specs.Intended.{intended}
use Rattle.ft_posix.proofs.Looking.{comes_lost, comes_on}
use Rattle.ft_calls.proofs.draft.Draft.unlink.Goals as goal

pub returns-in_err-spot-clause-plans : goal.returns-in_err-spot-clause-plans
returns-in_err-spot-clause-plans c =
    let p = err_from_is_err_and c.from_residual-in_err-spot.result c.from_residual-in_err-spot.ensures.1 in
    rw (p.1, p.2) (comes_lost c.args.self.now.look.now (parts_of c.args.path.now) unlink_spot false c.in_ok-parts.parts c.in_ok-parts.ensures c.walk.new.self _ c.in_err-spot.ensures)

pub returns-clause-plans : goal.returns-clause-plans
returns-clause-plans c = comes_on c.args.self.now.look.now (parts_of c.args.path.now) unlink_spot false c.in_ok-parts.parts c.in_ok-parts.ensures c.walk.new.self c.in_ok-spot.spot c.in_ok-spot.ensures c.unlink_spot.new.self.look.now (intended c.unlink_spot.new.self.edits.now c.unlink_spot.result) c.unlink_spot.ensures.plans
