use Rattle.std.proofs.Common.{◌≡◌, ℕ, Bool, false, [], None, Result, Ok, cond, refl, sym, subst, rules}
use Rattle.ft_path.specs.declared.errno.Errno.TheVariants.{ENOTDIR}
use Rattle.ft_cells.specs.declared.entry.Entry.{Entry as DirEntry}
use Rattle.ft_cells.specs.declared.node.Node.TheVariants.{File as FileNode}
use Rattle.ft_cells.specs.Looks.{Answer}
use Rattle.ft_cells.specs.declared.node.Form.{Form}
use Rattle.ft_cells.specs.declared.node.PathEnd.{PathEnd}
use Rattle.ft_cells.specs.declared.node.PathEnd.TheVariants.{Named}
use Rattle.ft_posix.specs.declared.intent.Intent.{Intent}
use Rattle.ft_posix.specs.declared.intent.CallError.{CallError}
use Rattle.ft_posix.specs.Outcomes.{failed}
use Rattle.ft_posix.specs.Links.{renamed, rename_file}
use Rattle.ft_posix.specs.Looking.{Looking}
use Rattle.ft_posix.specs.Computes.{Computes}
use Rattle.ft_posix.proofs.Moving.{done}
use Rattle.ft_calls.proofs.draft.Draft.rename_file.Goals as goal

-- the new name is not there
onto_none : (look : Looking) (old : DirEntry) (form : Form) (file : ℕ) (slash : Bool) (spot : PathEnd) (new : DirEntry) (r : Result Intent CallError)
    → spot ≡ Named new None slash → slash ≡ false → Computes look (Answer (renamed old (FileNode form file) new [])) look r → Computes look (rename_file old form file spot) look r
onto_none look old form file slash spot new r is without h =
    subst (λ s. Computes look (rename_file old form file s) look r) (sym is)
    (subst (λ b. Computes look (Answer (cond b (failed ENOTDIR) (renamed old (FileNode form file) new []))) look r) (sym without) h)

pub returns-in_ok-push_rename-in-None-2-clause-plans : goal.returns-in_ok-push_rename-in-None-2-clause-plans
returns-in_ok-push_rename-in-None-2-clause-plans c =
    onto_none c.args.self.now.look.now c.args.old c.args.form c.args.file c.in-Named.slash c.args.spot c.in-Named.new (Ok (done c.push_rename.new.edits)) (search rules) (search rules)
    (c.in_ok-push_rename-in-None-2.ensures c.args.self.now.look.now.cells, refl)
