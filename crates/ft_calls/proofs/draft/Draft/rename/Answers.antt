use Rattle.std.proofs.Common.{Ok}
use Rattle.ft_path.specs.FilePath.{parts_of}
use Rattle.ft_cells.specs.Cells.{directory_count}
use Rattle.ft_posix.specs.Links.{rename_parts}
use Rattle.ft_posix.specs.Intended.{intended}
use Rattle.ft_posix.proofs.Looking.{comes_text}
use Rattle.ft_calls.proofs.draft.Draft.rename.Goals as goal

pub returns-clause-plans : goal.returns-clause-plans
returns-clause-plans c =
    let l = c.rename_parts in
    let n = directory_count c.args.self.now.look.now.cells in
    comes_text c.args.self.now.look.now (λ t. rename_parts n t (parts_of c.args.new.now)) (parts_of c.args.old.now) c.in_ok-from.from c.in_ok-from.ensures l.new.self.look.now (intended l.new.self.edits.now l.result)
    (comes_text c.args.self.now.look.now (rename_parts n (Ok c.in_ok-from.from)) (parts_of c.args.new.now) c.in_ok-to.to c.in_ok-to.ensures l.new.self.look.now (intended l.new.self.edits.now l.result) l.ensures.plans)
