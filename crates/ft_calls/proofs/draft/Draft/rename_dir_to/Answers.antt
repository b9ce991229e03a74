use Rattle.std.proofs.Common.{false, Ok, refl, ap, subst}
use Rattle.std.proofs.lemmas.Result.{err_from_is_err_and}
use Rattle.ft_cells.specs.Cells.{directory_count}
use Rattle.ft_posix.specs.Links.{rename_dir}
use Rattle.ft_posix.specs.Looking.{Looking}
use Rattle.ft_posix.specs.Computes.{Computes}
use Rattle.ft_posix.specs.Intended.{intended}
use Rattle.ft_posix.proofs.Looking.{comes_lost, comes_on}
use Rattle.ft_calls.proofs.draft.Draft.rename_dir_to.Goals as goal

pub returns-in_err-spot-clause-plans : goal.returns-in_err-spot-clause-plans
returns-in_err-spot-clause-plans c =
    let p = err_from_is_err_and c.from_residual.result c.from_residual.ensures.1 in
    rw (p.1, p.2) (comes_lost c.args.self.now.look.now (Ok c.args.new.now) (rename_dir (directory_count c.args.self.now.look.now.cells) c.args.old c.args.number) false c.args.new.now refl c.walk.new.self _ c.in_err-spot.ensures)

pub returns-clause-plans : goal.returns-clause-plans
returns-clause-plans c =
    comes_on c.args.self.now.look.now (Ok c.args.new.now) (rename_dir (directory_count c.args.self.now.look.now.cells) c.args.old c.args.number) false c.args.new.now refl c.walk.new.self c.in_ok-spot.spot c.in_ok-spot.ensures c.rename_dir.new.self.look.now (intended c.rename_dir.new.self.edits.now c.rename_dir.result)
    (subst (λ n. Computes c.walk.new.self (rename_dir n c.args.old c.args.number c.in_ok-spot.spot) c.rename_dir.new.self.look.now (intended c.rename_dir.new.self.edits.now c.rename_dir.result)) (ap (λ (l : Looking). directory_count l.cells) c.in_ok-spot.ensures.1) c.rename_dir.ensures.plans)
