use Rattle.std.proofs.Common.{false, Ok, refl}
use Rattle.std.proofs.lemmas.Result.{err_from_is_err_and}
use Rattle.ft_posix.specs.Links.{link_new}
use Rattle.ft_posix.specs.Intended.{intended}
use Rattle.ft_posix.proofs.Looking.{comes_lost, comes_on}
use Rattle.ft_calls.proofs.draft.Draft.link_file.Goals as goal

pub returns-in_err-spot-clause-plans : goal.returns-in_err-spot-clause-plans
returns-in_err-spot-clause-plans c =
    let p = err_from_is_err_and c.from_residual.result c.from_residual.ensures.1 in
    rw (p.1, p.2) (comes_lost c.args.self.now.look.now (Ok c.args.new.now) (link_new c.args.limits c.args.form c.args.file) false c.args.new.now refl c.walk.new.self _ c.in_err-spot.ensures)

pub returns-clause-plans : goal.returns-clause-plans
returns-clause-plans c =
    comes_on c.args.self.now.look.now (Ok c.args.new.now) (link_new c.args.limits c.args.form c.args.file) false c.args.new.now refl c.walk.new.self c.in_ok-spot.spot c.in_ok-spot.ensures c.link_new.new.self.look.now (intended c.link_new.new.self.edits.now c.link_new.result) c.link_new.ensures.plans
