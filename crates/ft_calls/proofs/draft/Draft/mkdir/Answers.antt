use Rattle.std.proofs.Common.{false}
use Rattle.std.proofs.lemmas.Result.{err_from_is_err_and}
use Rattle.ft_path.specs.FilePath.{parts_of}
use Rattle.ft_posix.specs.Attributes.{mode_fault}
use Rattle.ft_posix.specs.Dirs.{make_dir}
use Rattle.ft_posix.specs.Intended.{intended}
use Rattle.ft_calls.proofs.PathsJudged.{judged_lost, judged_on}
use Rattle.ft_calls.proofs.draft.Draft.mkdir.Goals as goal

pub returns-in_err-spot-clause-plans : goal.returns-in_err-spot-clause-plans
returns-in_err-spot-clause-plans c =
    let p = err_from_is_err_and c.from_residual.result c.from_residual.ensures.1 in
    rw (p.1, p.2) (judged_lost c.args.self.now.look.now false (parts_of c.args.path.now) (make_dir c.args.self.now.stamp c.args.mode) c.find_spot.new.look c.mode_fault.result (mode_fault c.args.mode) c.mode_fault.ensures c.in_err-spot.field-0.0 c.in_err-spot.ensures)

pub returns-clause-plans : goal.returns-clause-plans
returns-clause-plans c =
    judged_on c.args.self.now.look.now false (parts_of c.args.path.now) (make_dir c.args.self.now.stamp c.args.mode) c.find_spot.new.look c.mode_fault.result (mode_fault c.args.mode) c.mode_fault.ensures c.in_ok-spot.spot c.in_ok-spot.ensures
    c.make_dir.new.self.look.now (intended c.make_dir.new.self.edits.now c.make_dir.result) c.make_dir.ensures.plans
