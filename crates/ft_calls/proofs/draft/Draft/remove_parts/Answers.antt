use Rattle.std.proofs.Common.{false, ◌≡◌, None, Ok, Err, refl, rules}
use Rattle.std.proofs.lemmas.Result.{err_from_is_err_and}
use Rattle.ft_posix.specs.Dirs.{remove_dir, last_fault}
use Rattle.ft_posix.specs.Outcomes.{from_parts}
use Rattle.ft_posix.specs.Intended.{intended}
use Rattle.ft_posix.proofs.Looking.{comes_lost, comes_on, comes_past}
use Rattle.ft_calls.proofs.draft.Draft.remove_parts.Goals as goal
use Rattle.ft_path.specs.FilePath.{last_of}

pub returns-in_err-spot-clause-plans : goal.returns-in_err-spot-clause-plans
returns-in_err-spot-clause-plans c =
    let fault = last_fault (last_of c.args.parts.now.names) in
    let clear : fault ≡ None = search rules in
    let p = err_from_is_err_and c.from_residual.result c.from_residual.ensures.1 in
    rw (p.1, p.2) (comes_past c.args.self.now.look.now fault (from_parts false (Ok c.args.parts.now) remove_dir) clear c.walk.new.self (Err c.in_err-spot.field-0.0) (comes_lost c.args.self.now.look.now (Ok c.args.parts.now) remove_dir false c.args.parts.now refl c.walk.new.self c.in_err-spot.field-0.0 c.in_err-spot.ensures))

pub returns-clause-plans : goal.returns-clause-plans
returns-clause-plans c =
    let fault = last_fault (last_of c.args.parts.now.names) in
    let clear : fault ≡ None = search rules in
    (comes_past c.args.self.now.look.now fault (from_parts false (Ok c.args.parts.now) remove_dir) clear c.remove_dir.new.self.look.now (intended c.remove_dir.new.self.edits.now c.remove_dir.result) (comes_on c.args.self.now.look.now (Ok c.args.parts.now) remove_dir false c.args.parts.now refl c.walk.new.self c.in_ok-spot.spot c.in_ok-spot.ensures c.remove_dir.new.self.look.now (intended c.remove_dir.new.self.edits.now c.remove_dir.result) c.remove_dir.ensures.plans))
