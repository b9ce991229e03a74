use Rattle.std.proofs.Common.{Ok, subst}
use Rattle.ft_cells.specs.declared.limits.TreeLimits.{TreeLimits}
use Rattle.ft_path.specs.FilePath.{parts_of}
use Rattle.ft_posix.specs.Links.{link_parts}
use Rattle.ft_posix.specs.Computes.{Computes}
use Rattle.ft_posix.specs.Intended.{intended}
use Rattle.ft_posix.proofs.Looking.{comes_text}
use Rattle.ft_calls.proofs.draft.Draft.link.Goals as goal

pub returns-clause-plans : goal.returns-clause-plans
returns-clause-plans c =
    let l = c.link_parts in
    subst (λ (m : TreeLimits). Computes c.args.self.now.look.now (link_parts m (parts_of c.args.old.now) (parts_of c.args.new.now)) l.new.self.look.now (intended l.new.self.edits.now l.result)) c.limits-limits.ensures.are
    (comes_text c.args.self.now.look.now (λ t. link_parts c.limits-limits.result t (parts_of c.args.new.now)) (parts_of c.args.old.now) c.in_ok-from.from c.in_ok-from.ensures l.new.self.look.now (intended l.new.self.edits.now l.result)
    (comes_text c.args.self.now.look.now (link_parts c.limits-limits.result (Ok c.in_ok-from.from)) (parts_of c.args.new.now) c.in_ok-to.to c.in_ok-to.ensures l.new.self.look.now (intended l.new.self.edits.now l.result) l.ensures.plans))
