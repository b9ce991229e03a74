use Rattle.std.proofs.Common.{false, Ok, refl}
use Rattle.std.proofs.lemmas.Result.{err_from_is_err_and}
use Rattle.ft_posix.specs.Links.{rename_file}
use Rattle.ft_posix.specs.Intended.{intended}
use Rattle.ft_posix.proofs.Looking.{comes_lost, comes_on}
use Rattle.ft_calls.proofs.draft.Draft.rename_file_to.Goals as goal

pub returns-in_err-spot-clause-plans : goal.returns-in_err-spot-clause-plans
returns-in_err-spot-clause-plans c =
    let p = err_from_is_err_and c.from_residual.result c.from_residual.ensures.1 in
    rw (p.1, p.2) (comes_lost c.args.self.now.look.now (Ok c.args.new.now) (rename_file c.args.old c.args.form c.args.file) false c.args.new.now refl c.walk.new.self _ c.in_err-spot.ensures)

pub returns-clause-plans : goal.returns-clause-plans
returns-clause-plans c =
    comes_on c.args.self.now.look.now (Ok c.args.new.now) (rename_file c.args.old c.args.form c.args.file) false c.args.new.now refl c.walk.new.self c.in_ok-spot.spot c.in_ok-spot.ensures c.rename_file.new.self.look.now (intended c.rename_file.new.self.edits.now c.rename_file.result) c.rename_file.ensures.plans
