use Rattle.std.proofs.Common.{ℕ, subst, rules}
use Rattle.std.proofs.lemmas.Int.{to_z-of_z}
use mir.Syntax.{w64}
use Rattle.ft_posix.specs.Computes.{Computes}
use Rattle.ft_posix.specs.Intended.{intended}
use Rattle.ft_cells.specs.Looks.{Looks, Answer}
use Rattle.ft_posix.specs.Outcomes.{Outcome}
use Rattle.ft_posix.specs.Descriptors.{seek_from, moved, sought}
use Rattle.ft_posix.proofs.Looking.{finds_then}
use Rattle.ft_calls.proofs.draft.Draft.seek_open.Goals as goal

pub returns-clause-plans : goal.returns-clause-plans
returns-clause-plans c =
    let go : ℕ → Looks Outcome = λ from. Answer (sought c.args.fd c.args.description (moved from c.args.offset)) in
    finds_then c.args.self.now.look.now (seek_from c.args.whence c.args.description) go c.in_ok-from.from c.seek_from.new.look c.seek_to.new.self.look.now (intended c.seek_to.new.self.edits.now c.seek_to.result) c.in_ok-from.ensures.0 c.in_ok-from.ensures.1
    (subst (λ z. Computes c.seek_from.new.look (Answer (sought c.args.fd c.args.description (moved c.in_ok-from.from z))) c.seek_to.new.self.look.now (intended c.seek_to.new.self.edits.now c.seek_to.result)) (to_z-of_z w64 c.args.offset (search rules)) c.seek_to.ensures.plans)
