use Rattle.ft_cells.specs.Cells.{directory_count}
use Rattle.ft_posix.specs.Links.{replace_dir}
use Rattle.ft_posix.specs.Intended.{intended}
use Rattle.ft_posix.proofs.Looking.{comes_met, comes_unmet}
use Rattle.ft_calls.proofs.draft.Draft.replace_dir.Goals as goal

pub returns-then-branch-clause-plans : goal.returns-then-branch-clause-plans
returns-then-branch-clause-plans c =
    let old = c.args.old in
    let new = c.args.new in
    let go = replace_dir old c.args.number new c.args.replaced in
    comes_met c.args.self.now.look.now (directory_count c.args.self.now.look.now.cells) c.args.number new.dir go c.climb.new.self c.in_ok-climb.field-0 c.in_ok-climb.ensures c.if-branch.true

pub returns-clause-plans : goal.returns-clause-plans
returns-clause-plans c =
    let old = c.args.old in
    let new = c.args.new in
    let go = replace_dir old c.args.number new c.args.replaced in
    comes_unmet c.args.self.now.look.now (directory_count c.args.self.now.look.now.cells) c.args.number new.dir go c.climb.new.self c.in_ok-climb.field-0 c.in_ok-climb.ensures c.if-branch.false c.replace_empty.new.self.look.now (intended c.replace_empty.new.self.edits.now c.replace_empty.result) c.replace_empty.ensures.plans
