use Rattle.std.proofs.Common.{false, ◌≡◌, None, Ok, Err, refl, ap, subst, rules}
use Rattle.std.proofs.lemmas.Result.{err_from_is_err_and}
use Rattle.ft_cells.specs.Cells.{directory_count}
use Rattle.ft_posix.specs.Outcomes.{from_parts}
use Rattle.ft_path.specs.FilePath.{last_of}
use Rattle.ft_posix.specs.Links.{rename_fault, rename_old}
use Rattle.ft_posix.specs.Looking.{Looking}
use Rattle.ft_posix.specs.Computes.{Computes}
use Rattle.ft_posix.specs.Intended.{intended}
use Rattle.ft_posix.proofs.Looking.{comes_lost, comes_on, comes_past}
use Rattle.ft_calls.proofs.draft.Draft.rename_parts.Goals as goal

pub returns-in_err-moved-clause-plans : goal.returns-in_err-moved-clause-plans
returns-in_err-moved-clause-plans c =
    let p = err_from_is_err_and c.from_residual.result c.from_residual.ensures.1 in
    let go = rename_old (directory_count c.args.self.now.look.now.cells) c.args.new.now in
    let fault = rename_fault (last_of c.args.old.now.names) (last_of c.args.new.now.names) in
    let clear : fault ≡ None = search rules in
    rw (p.1, p.2) (comes_past c.args.self.now.look.now fault (from_parts false (Ok c.args.old.now) go) clear c.walk.new.self (Err c.in_err-moved.field-0.0) (comes_lost c.args.self.now.look.now (Ok c.args.old.now) go false c.args.old.now refl c.walk.new.self _ c.in_err-moved.ensures))

pub returns-clause-plans : goal.returns-clause-plans
returns-clause-plans c =
    let on = c.rename_old in
    let n = directory_count c.args.self.now.look.now.cells in
    let go = rename_old n c.args.new.now in
    let fault = rename_fault (last_of c.args.old.now.names) (last_of c.args.new.now.names) in
    let clear : fault ≡ None = search rules in
    comes_past c.args.self.now.look.now fault (from_parts false (Ok c.args.old.now) go) clear on.new.self.look.now (intended on.new.self.edits.now on.result)
    (comes_on c.args.self.now.look.now (Ok c.args.old.now) go false c.args.old.now refl c.walk.new.self c.in_ok-moved.moved c.in_ok-moved.ensures on.new.self.look.now (intended on.new.self.edits.now on.result)
    (subst (λ k. Computes c.walk.new.self (rename_old k c.args.new.now c.in_ok-moved.moved) on.new.self.look.now (intended on.new.self.edits.now on.result)) (ap (λ (l : Looking). directory_count l.cells) c.in_ok-moved.ensures.1) on.ensures.plans))
