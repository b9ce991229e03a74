use Rattle.std.proofs.Common.{true}
use Rattle.std.proofs.lemmas.Result.{err_from_is_err_and}
use Rattle.ft_path.specs.FilePath.{parts_of}
use Rattle.ft_posix.specs.Attributes.{chown_spot}
use Rattle.ft_posix.specs.Intended.{intended}
use Rattle.ft_calls.proofs.PathsJudged.{found_on, found_lost}
use Rattle.ft_calls.proofs.draft.Draft.chown.Goals as goal

pub returns-in_err-spot-clause-plans : goal.returns-in_err-spot-clause-plans
returns-in_err-spot-clause-plans c =
    let p = err_from_is_err_and c.from_residual.result c.from_residual.ensures.1 in
    rw (p.1, p.2) (found_lost c.args.self.now.look.now true (parts_of c.args.path.now) (chown_spot c.args.owner c.args.group) c.find_spot.new.look c.in_err-spot.field-0.0 c.in_err-spot.ensures)

pub returns-clause-plans : goal.returns-clause-plans
returns-clause-plans c =
    let on = c.change_spot in
    found_on c.args.self.now.look.now true (parts_of c.args.path.now) (chown_spot c.args.owner c.args.group) c.find_spot.new.look c.in_ok-spot.spot c.in_ok-spot.ensures on.new.self.look.now (intended on.new.self.edits.now on.result) on.ensures.plans
