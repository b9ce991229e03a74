use Rattle.std.proofs.Common.{Bool, Err, not, subst}
use Rattle.std.proofs.lemmas.Result.{err_from_is_err_and}
use Rattle.ft_path.specs.FilePath.{parts_of}
use Rattle.ft_cells.specs.Looks.{Looks, Answer}
use Rattle.ft_cells.specs.declared.node.PathEnd.{PathEnd}
use Rattle.ft_posix.specs.Outcomes.{Outcome, from_judged}
use Rattle.ft_posix.specs.Files.{open_fault, open_spot}
use Rattle.ft_posix.specs.Computes.{Computes}
use Rattle.ft_posix.specs.Intended.{intended}
use Rattle.ft_calls.proofs.PathsJudged.{judged_lost, judged_on}
use Rattle.ft_calls.proofs.draft.Draft.open.Goals as goal

pub returns-in_err-spot-clause-plans : goal.returns-in_err-spot-clause-plans
returns-in_err-spot-clause-plans c =
    let go : PathEnd → Looks Outcome = λ spot. Answer (open_spot c.args.self.now.stamp c.args.flags spot) in
    let p = err_from_is_err_and c.from_residual.result c.from_residual.ensures.1 in
    rw (p.1, p.2) (subst (λ (b : Bool). Computes c.args.self.now.look.now (from_judged (open_fault c.args.flags) (not b) (parts_of c.args.path.now) go) c.find_spot.new.look (Err c.in_err-spot.field-0.0)) c.is_exclusive-follow.ensures
    (judged_lost c.args.self.now.look.now (not c.is_exclusive-follow.result) (parts_of c.args.path.now) go c.find_spot.new.look c.open_fault.result (open_fault c.args.flags) c.open_fault.ensures c.in_err-spot.field-0.0 c.in_err-spot.ensures))

pub returns-clause-plans : goal.returns-clause-plans
returns-clause-plans c =
    let go : PathEnd → Looks Outcome = λ spot. Answer (open_spot c.args.self.now.stamp c.args.flags spot) in
    subst (λ (b : Bool). Computes c.args.self.now.look.now (from_judged (open_fault c.args.flags) (not b) (parts_of c.args.path.now) go) c.open_spot.new.self.look.now (intended c.open_spot.new.self.edits.now c.open_spot.result)) c.is_exclusive-follow.ensures
    (judged_on c.args.self.now.look.now (not c.is_exclusive-follow.result) (parts_of c.args.path.now) go c.find_spot.new.look c.open_fault.result (open_fault c.args.flags) c.open_fault.ensures c.in_ok-spot.spot c.in_ok-spot.ensures
    c.open_spot.new.self.look.now (intended c.open_spot.new.self.edits.now c.open_spot.result) c.open_spot.ensures.plans)
