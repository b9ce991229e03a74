-- What takes a call back is of cells that the call wrote, of each one once.
use Rattle.std.proofs.Common.{◌≡◌, ◌&&◌, true, false, List, [], ◌∷◌, inl, inr, refl, sym, ap, subst, ◌∙◌}
use Rattle.std.proofs.lemmas.Bool.{and_parts, or_cases, or_left, or_right}
use Rattle.std.specs.Cmp.{eq_by_cmp_equiv}
use Rattle.ft_laws.specs.Lists.{Each, Pairs, In}
use Rattle.ft_laws.specs.Effects.{Access as PlaceAccess, before, write_all, change}
use Rattle.ft_cells.specs.declared.cell.Cell.{Cell}
use Rattle.ft_cells.specs.declared.cell.Cell.TheVariants.{Entry, Names, Parent, Links, Bytes, Fd, DirAttributes, FileAttributes}
use Rattle.ft_cells.specs.CellOrder.{cell_cmp_total, same_cell, same_cell-is}
use Rattle.ft_cells.specs.Cells.{Cells}
use Rattle.ft_tree.specs.Held.{held, set_cell}
use Rattle.ft_posix.specs.CellLaws.{SettingLaw}
use Rattle.ft_posix.specs.Edits.{IsOtherThan, AreApart}
use Rattle.ft_posix.specs.Posix.{covers, posix}
use Rattle.ft_posix.specs.RunLaws.{writes_cell}
use Rattle.ft_core.specs.Kept.{Item, Change, IsOfWritten}

itself : (c : Cell) → same_cell c c ≡ true
itself = (eq_by_cmp_equiv cell_cmp_total).refl

turned : (c d : Cell) → same_cell c d ≡ same_cell d c
turned = (eq_by_cmp_equiv cell_cmp_total).symm

-- the values of the written cells are of these cells

noted-before : (s : Cells) (f : List (PlaceAccess Cell)) (ws : List Change) → Each (λ (w : Change). writes_cell f w.cell ≡ true) ws → Each (λ (w : Change). writes_cell f w.cell ≡ true) (before posix s ws)
noted-before s f [] h = tt
noted-before s f (w ∷ ws) h = (h.0, noted-before s f ws h.1)

other-before : (s : Cells) (c : Cell) (ws : List Change) → IsOtherThan c ws → Each (λ (w : Change). same_cell c w.cell ≡ false) (before posix s ws)
other-before s c [] h = tt
other-before s c (w ∷ ws) h = (h.0, other-before s c ws h.1)

apart-before : (s : Cells) (ws : List Change) → AreApart ws → Pairs (λ (v w : Change). same_cell v.cell w.cell ≡ false) (before posix s ws)
apart-before s [] h = tt
apart-before s (w ∷ ws) h = (other-before s w.cell ws h.0, apart-before s ws h.1)

pub of-written : (s : Cells) (f : List (PlaceAccess Cell)) (ws : List Change) → Each (λ (w : Change). writes_cell f w.cell ≡ true) ws → AreApart ws → (e : Item) → e.done.accesses ≡ f
    → e.inverse.before ≡ before posix s ws → e.inverse.after ≡ before posix (write_all posix s ws) ws → IsOfWritten e
of-written s f ws noted apart e accesses first last = record {
  before = subst (λ g. Each (λ (w : Change). writes_cell g w.cell ≡ true) e.inverse.before) (sym accesses) (subst (Each (λ (w : Change). writes_cell f w.cell ≡ true)) (sym first) (noted-before s f ws noted));
  after = subst (λ g. Each (λ (w : Change). writes_cell g w.cell ≡ true) e.inverse.after) (sym accesses)
      (subst (Each (λ (w : Change). writes_cell f w.cell ≡ true)) (sym last) (noted-before (write_all posix s ws) f ws noted));
  apart = subst (Pairs (λ (v w : Change). same_cell v.cell w.cell ≡ false)) (sym first) (apart-before s ws apart);
}

-- A cell that is written is changed, as calls in the abstract have it.

covers-itself : (x : Cell) → covers x x ≡ true
covers-itself (Entry entry) = itself (Entry entry)
covers-itself (Names d) = itself (Names d)
covers-itself (Parent d) = itself (Parent d)
covers-itself (Links i) = itself (Links i)
covers-itself (Bytes i) = itself (Bytes i)
covers-itself (Fd f) = itself (Fd f)
covers-itself (DirAttributes d) = itself (DirAttributes d)
covers-itself (FileAttributes i) = itself (FileAttributes i)

pub written-changes : (f : List (PlaceAccess Cell)) (x : Cell) → writes_cell f x ≡ true → change posix f x ≡ true
written-changes [] x h = h
written-changes (a ∷ f) x h = elim (or_cases (same_cell a.place x && a.writes) (writes_cell f x) h) [
  | inl here ↦
      let parts = and_parts (same_cell a.place x) a.writes here in
      or_left (a.writes && covers a.place x) (change posix f x) (ap (λ b. b && covers a.place x) parts.1 ∙ subst (λ c. covers a.place c ≡ true) (same_cell-is a.place x parts.0) (covers-itself a.place))
  | inr more ↦ or_right (a.writes && covers a.place x) (change posix f x) (written-changes f x more)
]

-- Of cells that are set one after another, each once, each holds what it was set to.
module _ (setting : SettingLaw) where
  still : (ws : List Change) (s : Cells) (x : Cell) → Each (λ (w : Change). same_cell x w.cell ≡ false) ws → held (write_all posix s ws) x ≡ held s x
  still [] s x h = refl
  still (w ∷ ws) s x h = still ws (set_cell s w.cell w.value) x h.1 ∙ setting.kept s w.cell w.value x (turned w.cell x ∙ h.0)

  pub set-once : (ws : List Change) (s : Cells) → Pairs (λ (v w : Change). same_cell v.cell w.cell ≡ false) ws → (w : Change) → In w ws → held (write_all posix s ws) w.cell ≡ w.value
  set-once [] s apart w i = absurd i
  set-once (v ∷ ws) s apart w (inl e) = subst (λ (u : Change). held (write_all posix s (v ∷ ws)) u.cell ≡ u.value) (sym e) (still ws (set_cell s v.cell v.value) v.cell apart.0 ∙ setting.written s v.cell v.value)
  set-once (v ∷ ws) s apart w (inr i) = set-once ws (set_cell s v.cell v.value) apart.1 w i
