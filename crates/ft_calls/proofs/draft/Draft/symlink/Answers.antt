use Rattle.ft_path.specs.FilePath.{parts_of}
use Rattle.ft_posix.specs.Symlinks.{symlink_parts}
use Rattle.ft_posix.specs.Computes.{Computes}
use Rattle.ft_posix.specs.Intended.{intended}
use Rattle.std.proofs.Common.{List, ℕ, subst}
use Rattle.ft_posix.proofs.Looking.{comes_text}
use Rattle.ft_calls.proofs.draft.Draft.symlink.Goals as goal

pub returns-clause-plans : goal.returns-clause-plans
returns-clause-plans c =
    let l = c.symlink_parts in
    subst (λ (target : List ℕ). Computes c.args.self.now.look.now (symlink_parts c.args.self.now.stamp target (parts_of c.args.path.now)) l.new.self.look.now (intended l.new.self.edits.now l.result)) c.as_bytes.ensures.value
    (comes_text c.args.self.now.look.now (symlink_parts c.args.self.now.stamp c.as_bytes.result.now) (parts_of c.args.path.now) c.in_ok-parts.parts c.in_ok-parts.ensures l.new.self.look.now (intended l.new.self.edits.now l.result) l.ensures.plans)
