use Rattle.std.proofs.Common.{◌≡◌, ℕ, ℤ, List, [], Result, sym, ap, subst, ◌∙◌, rules}
use Rattle.std.proofs.lemmas.Int.{to_z-of_z}
use mir.Val.{SFits, of_z, to_z}
use mir.Syntax.{w64}
use Rattle.ft_cells.specs.Cells.{directory_count}
use Rattle.ft_cells.specs.Looks.{Looks}
use Rattle.ft_posix.specs.Outcomes.{Outcome}
use Rattle.ft_posix.specs.declared.call.Call.{Call}
use Rattle.ft_posix.specs.declared.call.Call.TheVariants.{Write, Pread, Pwrite, Lseek, Ftruncate}
use Rattle.ft_posix.specs.declared.intent.Edit.{Edit}
use Rattle.ft_posix.specs.declared.intent.PlannedReply.{PlannedReply}
use Rattle.ft_posix.specs.declared.intent.Intent.{Intent}
use Rattle.ft_posix.specs.declared.intent.CallError.{CallError}
use Rattle.ft_posix.specs.Steps.{steps}
use Rattle.ft_posix.specs.Looking.{Looking}
use Rattle.ft_posix.specs.Computes.{Computes}
use Rattle.ft_posix.specs.Intended.{intended}
use Rattle.ft_calls.proofs.draft.Draft.plan.Goals as goal

-- what the call comes to that the pattern names
named : (old : Looking) (k : ℕ) (call arm : Call) → call ≡ arm → (new : Looking) (r : Result Intent CallError) → Computes old (steps old.cells.limits (directory_count old.cells) k arm) new r → Computes old (steps old.cells.limits (directory_count old.cells) k call) new r
named old k call arm is new r h = subst (λ (one : Call). Computes old (steps old.cells.limits (directory_count old.cells) k one) new r) (sym is) h

-- a call that only tells makes out no edit
told_alone : (old new : Looking) (s : Looks Outcome) (edits : List Edit) (r : Result PlannedReply CallError) → edits ≡ [] → Computes old s new (intended [] r) → Computes old s new (intended edits r)
told_alone old new s edits r none h = subst (λ es. Computes old s new (intended es r)) (sym none) h

-- a signed number as it is passed
passed : (z : ℤ) → SFits w64 z → z ≡ to_z w64 (of_z w64 z)
passed z fits = sym (to_z-of_z w64 z fits)

pub returns-in-Pread-clause-plans : goal.returns-in-Pread-clause-plans
returns-in-Pread-clause-plans c =
    told_alone c.args.self.now.look.now c.pread.new.look (steps c.args.self.now.look.now.cells.limits (directory_count c.args.self.now.look.now.cells) c.args.self.now.stamp c.args.call.now) c.args.self.now.edits.now c.pread.result c.requires.none
    (named c.args.self.now.look.now c.args.self.now.stamp _ _ (c.in-Pread.is ∙ ap (λ z. Pread c.in-Pread.fd z c.in-Pread.len) (passed c.in-Pread.off (search rules))) c.pread.new.look (intended [] c.pread.result) c.pread.ensures)

pub returns-in-Stat-clause-plans : goal.returns-in-Stat-clause-plans
returns-in-Stat-clause-plans c =
    told_alone c.args.self.now.look.now c.stat.new.look (steps c.args.self.now.look.now.cells.limits (directory_count c.args.self.now.look.now.cells) c.args.self.now.stamp c.args.call.now) c.args.self.now.edits.now c.stat.result c.requires.none
    (named c.args.self.now.look.now c.args.self.now.stamp _ _ c.in-Stat.is c.stat.new.look (intended [] c.stat.result) c.stat.ensures)

pub returns-in-Fstat-clause-plans : goal.returns-in-Fstat-clause-plans
returns-in-Fstat-clause-plans c =
    told_alone c.args.self.now.look.now c.fstat.new.look (steps c.args.self.now.look.now.cells.limits (directory_count c.args.self.now.look.now.cells) c.args.self.now.stamp c.args.call.now) c.args.self.now.edits.now c.fstat.result c.requires.none
    (named c.args.self.now.look.now c.args.self.now.stamp _ _ c.in-Fstat.is c.fstat.new.look (intended [] c.fstat.result) c.fstat.ensures)

pub returns-in-List-clause-plans : goal.returns-in-List-clause-plans
returns-in-List-clause-plans c =
    told_alone c.args.self.now.look.now c.list.new.look (steps c.args.self.now.look.now.cells.limits (directory_count c.args.self.now.look.now.cells) c.args.self.now.stamp c.args.call.now) c.args.self.now.edits.now c.list.result c.requires.none
    (named c.args.self.now.look.now c.args.self.now.stamp _ _ c.in-List.is c.list.new.look (intended [] c.list.result) c.list.ensures)

pub returns-in-Pwrite-clause-plans : goal.returns-in-Pwrite-clause-plans
returns-in-Pwrite-clause-plans c =
    named c.args.self.now.look.now c.args.self.now.stamp _ _
    (c.in-Pwrite.is ∙ ap (λ z. Pwrite c.in-Pwrite.fd z c.in-Pwrite.bytes) (passed c.in-Pwrite.off (search rules)) ∙ ap (λ bytes. Pwrite c.in-Pwrite.fd (to_z w64 (of_z w64 c.in-Pwrite.off)) bytes) (sym c.as_slice-in-Pwrite.ensures))
    c.pwrite.new.self.look.now (intended c.pwrite.new.self.edits.now c.pwrite.result) c.pwrite.ensures.plans

pub returns-in-Lseek-clause-plans : goal.returns-in-Lseek-clause-plans
returns-in-Lseek-clause-plans c =
    named c.args.self.now.look.now c.args.self.now.stamp _ _ (c.in-Lseek.is ∙ ap (Lseek c.in-Lseek.fd c.in-Lseek.whence) (passed c.in-Lseek.off (search rules))) c.lseek.new.self.look.now (intended c.lseek.new.self.edits.now c.lseek.result) c.lseek.ensures.plans

pub returns-in-Ftruncate-clause-plans : goal.returns-in-Ftruncate-clause-plans
returns-in-Ftruncate-clause-plans c =
    named c.args.self.now.look.now c.args.self.now.stamp _ _ (c.in-Ftruncate.is ∙ ap (Ftruncate c.in-Ftruncate.fd) (passed c.in-Ftruncate.len (search rules))) c.ftruncate.new.self.look.now (intended c.ftruncate.new.self.edits.now c.ftruncate.result) c.ftruncate.ensures.plans

pub returns-in-Write-clause-plans : goal.returns-in-Write-clause-plans
returns-in-Write-clause-plans c =
    named c.args.self.now.look.now c.args.self.now.stamp _ _ (c.in-Write.is ∙ ap (λ bytes. Write c.in-Write.fd bytes) (sym c.as_slice.ensures)) c.write.new.self.look.now (intended c.write.new.self.edits.now c.write.result) c.write.ensures.plans

pub returns-in-Readlink-clause-plans : goal.returns-in-Readlink-clause-plans
returns-in-Readlink-clause-plans c =
    told_alone c.args.self.now.look.now c.readlink.new.look (steps c.args.self.now.look.now.cells.limits (directory_count c.args.self.now.look.now.cells) c.args.self.now.stamp c.args.call.now) c.args.self.now.edits.now c.readlink.result c.requires.none
    (named c.args.self.now.look.now c.args.self.now.stamp _ _ c.in-Readlink.is c.readlink.new.look (intended [] c.readlink.result) c.readlink.ensures)

pub returns-in-Lstat-clause-plans : goal.returns-in-Lstat-clause-plans
returns-in-Lstat-clause-plans c =
    told_alone c.args.self.now.look.now c.stat-in-Lstat.new.look (steps c.args.self.now.look.now.cells.limits (directory_count c.args.self.now.look.now.cells) c.args.self.now.stamp c.args.call.now) c.args.self.now.edits.now c.stat-in-Lstat.result c.requires.none
    (named c.args.self.now.look.now c.args.self.now.stamp _ _ c.in-Lstat.is c.stat-in-Lstat.new.look (intended [] c.stat-in-Lstat.result) c.stat-in-Lstat.ensures)

pub returns-in-Mkdir-clause-plans : goal.returns-in-Mkdir-clause-plans
returns-in-Mkdir-clause-plans c = named c.args.self.now.look.now c.args.self.now.stamp _ _ c.in-Mkdir.is c.mkdir.new.self.look.now (intended c.mkdir.new.self.edits.now c.mkdir.result) c.mkdir.ensures.plans

pub returns-in-Chown-clause-plans : goal.returns-in-Chown-clause-plans
returns-in-Chown-clause-plans c = named c.args.self.now.look.now c.args.self.now.stamp _ _ c.in-Chown.is c.chown.new.self.look.now (intended c.chown.new.self.edits.now c.chown.result) c.chown.ensures.plans

pub returns-in-Lchown-clause-plans : goal.returns-in-Lchown-clause-plans
returns-in-Lchown-clause-plans c = named c.args.self.now.look.now c.args.self.now.stamp _ _ c.in-Lchown.is c.lchown.new.self.look.now (intended c.lchown.new.self.edits.now c.lchown.result) c.lchown.ensures.plans
