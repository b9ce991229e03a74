use Rattle.std.proofs.Common.{[], Ok, refl}
use Rattle.ft_cells.specs.declared.node.Node.TheVariants.{Dir as DirNode}
use Rattle.ft_cells.specs.Cells.{directory_count}
use Rattle.ft_cells.specs.Looks.{Answer}
use Rattle.ft_posix.specs.Links.{renamed, with_parent}
use Rattle.ft_posix.proofs.Looking.{comes_met, comes_unmet}
use Rattle.ft_posix.proofs.Moving.{comes-more, done}
use Rattle.ft_calls.proofs.draft.Draft.move_dir.Goals as goal

pub returns-then-branch-clause-plans : goal.returns-then-branch-clause-plans
returns-then-branch-clause-plans c =
    let old = c.args.old in
    let new = c.args.new in
    let go = Answer (renamed old (DirNode c.args.number) new (with_parent c.args.number old.dir new.dir)) in
    comes_met c.args.self.now.look.now (directory_count c.args.self.now.look.now.cells) c.args.number new.dir go c.climb.new.self c.in_ok-climb.field-0 c.in_ok-climb.ensures c.if-branch.true

pub returns-clause-plans : goal.returns-clause-plans
returns-clause-plans c =
    let old = c.args.old in
    let new = c.args.new in
    let parents = with_parent c.args.number old.dir new.dir in
    let go = Answer (renamed old (DirNode c.args.number) new parents) in
    let cells = c.climb.new.self.cells in
    comes_unmet c.args.self.now.look.now (directory_count c.args.self.now.look.now.cells) c.args.number new.dir go c.climb.new.self c.in_ok-climb.field-0 c.in_ok-climb.ensures c.if-branch.false c.climb.new.self (Ok (done c.with_parent.new.edits))
    (comes-more cells c.push_rename.new.edits c.with_parent.new.edits (renamed old (DirNode c.args.number) new []) parents (c.in_ok-with_parent.ensures cells) (c.in_ok-push_rename.ensures cells), refl)
