use Rattle.std.proofs.Common.{◌≡◌, ℕ, List, [], ◌∷◌, Result, refl, rules}
use Rattle.ft_cells.specs.declared.open_file.OpenFile.{OpenFile}
use Rattle.ft_cells.specs.declared.limits.TreeLimits.{TreeLimits}
use Rattle.ft_cells.specs.Looks.{then}
use Rattle.ft_posix.specs.declared.intent.Intent.{Intent}
use Rattle.ft_posix.specs.declared.intent.CallError.{CallError}
use Rattle.ft_posix.specs.Descriptors.{write_place, write_at, write_open}
use Rattle.ft_posix.specs.Looking.{Looking}
use Rattle.ft_posix.specs.Computes.{Computes}
use Rattle.ft_posix.specs.Intended.{intended}
use Rattle.ft_posix.proofs.Looking.{finds_then}
use Rattle.ft_calls.proofs.draft.Draft.write_open.Goals as goal

-- bytes that are some are written
some_bytes : (old new : Looking) (r : Result Intent CallError) (limits : TreeLimits) (fd : ℕ) (bytes : List ℕ) (o : OpenFile) → (bytes ≡ [] → ⊥) → Computes old (then (write_place o) (write_at limits fd o bytes)) new r → Computes old (write_open limits fd bytes o) new r
some_bytes old new r limits fd [] o some h = absurd (some refl)
some_bytes old new r limits fd (first ∷ more) o some h = h

pub returns-clause-plans : goal.returns-clause-plans
returns-clause-plans c =
    some_bytes c.args.self.now.look.now c.write_at.new.self.look.now (intended c.write_at.new.self.edits.now c.write_at.result) c.args.limits c.args.fd c.args.bytes.now c.args.description (search rules)
    (finds_then c.args.self.now.look.now (write_place c.args.description) (write_at c.args.limits c.args.fd c.args.description c.args.bytes.now) c.in_ok-place.place c.write_place.new.look c.write_at.new.self.look.now (intended c.write_at.new.self.edits.now c.write_at.result)
    c.in_ok-place.ensures.0 c.in_ok-place.ensures.1 c.write_at.ensures.plans)
