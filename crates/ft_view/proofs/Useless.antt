-- What a call leaves of no use is among what it came upon.
use Rattle.std.proofs.Common.{◌≡◌, inl, inr, ℕ, true, List, sym, ap, subst, ◌∙◌}
use Rattle.std.proofs.lemmas.Bool.{false≢true}
use Rattle.ft_laws.specs.Laws.{Lawful}
use Rattle.ft_cells.specs.declared.cell.Cell.{Cell}
use Rattle.ft_cells.specs.Cells.{Cells}
use Rattle.ft_tree.specs.Sound.{AreSoundCells, IsFree}
use Rattle.ft_tree.specs.Sweep.{is_useless}
use Rattle.ft_posix.specs.declared.call.Call.{Call}
use Rattle.ft_posix.specs.declared.call.Access.{Access}
use Rattle.ft_posix.specs.Accesses.{accesses_of}
use Rattle.ft_posix.specs.Posix.{Stamped, does, posix_calls}
use Rattle.ft_posix.specs.Stored.{after}
use Rattle.ft_posix.proofs.Climbing.{steps-alike, stored-enough}
use Rattle.ft_posix.proofs.ComesUpon.{call-upon}
use Rattle.ft_posix.proofs.Kept.{soundness, freshness}
use Rattle.ft_posix.proofs.Lawful.{lawful, write-put}
use Rattle.ft_posix.proofs.Leaving.{useless}
use Rattle.ft_view.specs.Cleared.{is_met, DropsMet}

lawful_calls : Lawful posix_calls
lawful_calls = lawful steps-alike stored-enough call-upon soundness freshness

-- once that is dropped, what is of no use was so before
pub left-by-call : (old : Cells) (stamp : ℕ) (call : Call) (accesses : List Access) → AreSoundCells old → IsFree old stamp → accesses ≡ accesses_of old stamp call
    → (new : Cells) → DropsMet accesses (after old stamp call) new → (c : Cell) → is_useless new c ≡ true → is_useless old c ≡ true
left-by-call old stamp call accesses sound free met new dropped c h =
    let s : Stamped = record { stamp = stamp; call = call } in
    let was = dropped c h in
    elim (useless lawful_calls soundness old s sound free c (subst (λ (cells : Cells). is_useless cells c ≡ true) (sym (write-put (does old s).writes old)) was.0)) [
      | inl before ↦ before
      | inr upon ↦ absurd (false≢true (sym was.1 ∙ ap (λ (list : List Access). is_met list c) met ∙ upon))
    ]
