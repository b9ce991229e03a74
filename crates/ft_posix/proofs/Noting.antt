-- What is noted of a call is what it accesses.
use Rattle.std.proofs.Common.{◌≡◌, ℕ, List, [], ◌∷◌, Option, drop, refl, sym, ap, ◌∙◌}
use Rattle.std.specs.List.{slice_get}
use Rattle.std.specs.Option.{option_to_list}
use Rattle.std.specs.FinMap as finite
use Rattle.ft_cells.specs.Cells.{Cells, directory_count}
use Rattle.ft_cells.specs.Looks.{Looks, Answer, Look, View, answer, looked_at}
use Rattle.ft_tree.specs.Views.{view_of}
use Rattle.ft_posix.specs.declared.call.Call.{Call}
use Rattle.ft_posix.specs.declared.call.Mode.TheVariants.{Read as ReadMode}
use Rattle.ft_posix.specs.declared.intent.Edit.{Edit}
use Rattle.ft_posix.specs.declared.intent.Edit.TheVariants.{Entry, Parent, Links, Overwrite, Resize, Open, DirAttributes, FileAttributes, Time}
use Rattle.ft_posix.specs.declared.intent.Intent.{Intent}
use Rattle.ft_posix.specs.Outcomes.{Outcome}
use Rattle.ft_posix.specs.Steps.{steps}
use Rattle.ft_posix.specs.Stored.{outcome}
use Rattle.ft_posix.specs.Accesses.{Modes, with_looks, with_writes, with_accesses, listed, accesses_of}
use Rattle.ft_posix.specs.Looking.{Looking, noted}
use Rattle.ft_posix.specs.Computes.{writes_of, outcome_of}
use Rattle.ft_posix.specs.Edits.{with_edits}

with_accesses-split : (s : Looks Outcome) (m : Modes) (v : View) → with_accesses m s v ≡ with_writes (with_looks m (looked_at s v)) (answer s v).writes
with_accesses-split (Answer o) m v = refl
with_accesses-split (Look c next) m v = with_accesses-split (next (v c)) (finite.insert m c ReadMode) v

pub with_edits-writes : (cells : Cells) (es : List Edit) (m : Modes) → with_edits m es ≡ with_writes m (writes_of cells es)
with_edits-writes cells [] m = refl
with_edits-writes cells (Entry entry to ∷ es) m = with_edits-writes cells es _
with_edits-writes cells (Parent d to ∷ es) m = with_edits-writes cells es _
with_edits-writes cells (Links i to ∷ es) m = with_edits-writes cells es _
with_edits-writes cells (Overwrite i at bytes ∷ es) m = with_edits-writes cells es _
with_edits-writes cells (Resize i size ∷ es) m = with_edits-writes cells es _
with_edits-writes cells (Open f to ∷ es) m = with_edits-writes cells es _
with_edits-writes cells (DirAttributes d to ∷ es) m = with_edits-writes cells es _
with_edits-writes cells (FileAttributes i to ∷ es) m = with_edits-writes cells es _
with_edits-writes cells (Time i to ∷ es) m = with_edits-writes cells es _

pub accesses-noted : (cells : Cells) (old mid : Looking) (k : ℕ) (call : Call) (x : Intent) → old ≡ record { cells = cells; modes = finite.empty; front = [] } → outcome_of old.cells x ≡ outcome old.cells k call → mid ≡ noted old (steps old.cells.limits (directory_count old.cells) k call)
    → listed (with_edits mid.modes x.edits) ≡ accesses_of cells k call
accesses-noted cells old mid k call x start comes looks =
    let s = steps old.cells.limits (directory_count old.cells) k call in
    let v = view_of old.cells in
    ap listed (ap (λ (l : Looking). with_edits l.modes x.edits) looks ∙ with_edits-writes old.cells x.edits (with_looks old.modes (looked_at s v))
    ∙ ap (λ (o : Outcome). with_writes (with_looks old.modes (looked_at s v)) o.writes) comes ∙ sym (with_accesses-split s old.modes v) ∙ ap (λ (l : Looking). with_accesses l.modes s v) start)
    ∙ ap (λ (l : Looking). accesses_of l.cells k call) start

-- edits are noted in three parts: the first, the second, and the others
in-parts : (m : Modes) (es : List Edit) → with_edits (with_edits (with_edits m (option_to_list (slice_get es 0))) (option_to_list (slice_get es 1))) (drop 2 es) ≡ with_edits m es
in-parts m [] = refl
in-parts m (e ∷ []) = refl
in-parts m (e ∷ f ∷ es) = refl

pub parts_noted : (m one two : Modes) (es : List Edit) (first second : Option Edit) → first ≡ slice_get es 0 → second ≡ slice_get es 1 → one ≡ with_edits m (option_to_list first) → two ≡ with_edits one (option_to_list second)
    → with_edits two (drop 2 es) ≡ with_edits m es
parts_noted m one two es first second is_first is_second noted_one noted_two =
    ap (λ n. with_edits n (drop 2 es)) (noted_two ∙ (λ i. with_edits (noted_one i) (option_to_list (is_second i))) ∙ ap (λ o. with_edits (with_edits m (option_to_list o)) (option_to_list (slice_get es 1))) is_first)
    ∙ in-parts m es
