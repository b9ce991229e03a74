-- What takes a call back does on the cells what the call's inverse does, and keeps all places.
use Rattle.std.proofs.Common.{◌≡◌, ℕ, List, [], ◌∷◌, Option, Some, None, map, refl, sym, ap, subst, ◌∙◌}
use Rattle.ft_laws.specs.Lists.{Each}
use Rattle.ft_laws.specs.Effects.{write_all}
use Rattle.ft_laws.proofs.Lists.{Each-map}
use Rattle.ft_laws.proofs.Tests.{by_test}
use Rattle.ft_cells.specs.declared.cell.Cell.{Cell}
use Rattle.ft_cells.specs.declared.cell.Cell.TheVariants.{Entry, Names, Parent, Links, Bytes, Fd, DirAttributes, FileAttributes}
use Rattle.ft_cells.specs.declared.open_file.OpenFile.{OpenFile}
use Rattle.ft_cells.specs.CellOrder.{same_cell, same_cell-is}
use Rattle.ft_cells.specs.Cells.{Cells, open_of, HasFilePlace}
use Rattle.ft_tree.specs.Held.{Holds, IsStored, set_cell}
use Rattle.ft_posix.specs.CellLaws.{SettingLaw}
use Rattle.ft_posix.specs.Outcomes.{Write}
use Rattle.ft_posix.specs.Posix.{posix, posix_calls}
use Rattle.ft_posix.specs.RunLaws.{HasNamedPlaces}
use Rattle.ft_posix.specs.Stored.{put_all}
use Rattle.ft_undo.specs.declared.logs.LogRecord.{LogRecord}
use Rattle.ft_undo.specs.Undone.{given_back, CanGiveAllBack}
use Rattle.ft_core.specs.Kept.{Change, Item, ArePlaced, TakesBack, file_is_stored}

-- writes are put as calls in the abstract write
pub write-put : (ws : List Write) (cells : Cells) → write_all posix cells ws ≡ put_all cells ws
write-put [] cells = refl
write-put (w ∷ ws) cells = write-put ws (set_cell cells w.cell w.value)

pub put-back : (cells : Cells) (e : Item) (x : LogRecord) → TakesBack e x → put_all cells (map given_back x.undo) ≡ posix_calls.revert cells e.inverse
put-back cells e x takes = sym (write-put (map given_back x.undo) cells) ∙ ap (write_all posix cells) takes.same

-- all places are there that were
abbrev pub StayPlaces : Cells → Cells → Type 0
StayPlaces old new = (c : Cell) → IsStored old c → IsStored new c

file-stays : (old new : Cells) → StayPlaces old new → (c : Cell) (v : Holds c) → file_is_stored old c v → file_is_stored new c v
file-stays old new stay (Entry entry) v h = tt
file-stays old new stay (Names d) v h = tt
file-stays old new stay (Parent d) v h = tt
file-stays old new stay (Links i) v h = tt
file-stays old new stay (Bytes i) v h = tt
file-stays old new stay (Fd f) None h = tt
file-stays old new stay (Fd f) (Some o) h = stay (Links o.file) h
file-stays old new stay (DirAttributes d) v h = tt
file-stays old new stay (FileAttributes i) v h = tt

pub placed-stays : (old new : Cells) → StayPlaces old new → (e : Item) → ArePlaced old e → ArePlaced new e
placed-stays old new stay e h = record {
  own = h.own;
  written = Each-map (λ (w : Change). IsStored old w.cell) (λ (w : Change). IsStored new w.cell) (λ w. stay w.cell) e.inverse.after h.written;
  files = Each-map (λ (w : Change). file_is_stored old w.cell w.value) (λ (w : Change). file_is_stored new w.cell w.value) (λ w. file-stays old new stay w.cell w.value) e.inverse.before h.files;
}

module _ (setting : SettingLaw) where
  pub stays-written : (ws : List Change) (cells : Cells) → StayPlaces cells (write_all posix cells ws)
  stays-written [] cells c h = h
  stays-written (w ∷ ws) cells c h = stays-written ws (set_cell cells w.cell w.value) c (setting.stays cells w.cell w.value c h)

  -- a description is there that was, or the one that is set
  opens-set : (cells : Cells) (c : Cell) (v : Holds c) → file_is_stored cells c v → ((f : ℕ) (o : OpenFile) → open_of cells f ≡ Some o → HasFilePlace cells o.file) → (f : ℕ) (o : OpenFile) → open_of (set_cell cells c v) f ≡ Some o → HasFilePlace cells o.file
  opens-set cells (Entry entry) v h opens f o is = opens f o (sym (setting.kept cells (Entry entry) v (Fd f) refl) ∙ is)
  opens-set cells (Names d) v h opens f o is = opens f o is
  opens-set cells (Parent d) v h opens f o is = opens f o (sym (setting.kept cells (Parent d) v (Fd f) refl) ∙ is)
  opens-set cells (Links i) v h opens f o is = opens f o (sym (setting.kept cells (Links i) v (Fd f) refl) ∙ is)
  opens-set cells (Bytes i) v h opens f o is = opens f o (sym (setting.kept cells (Bytes i) v (Fd f) refl) ∙ is)
  opens-set cells (DirAttributes d) v h opens f o is = opens f o (sym (setting.kept cells (DirAttributes d) v (Fd f) refl) ∙ is)
  opens-set cells (FileAttributes i) v h opens f o is = opens f o (sym (setting.kept cells (FileAttributes i) v (Fd f) refl) ∙ is)
  opens-set cells (Fd g) v h opens f o is = by_test (same_cell (Fd g) (Fd f))
      (λ k.
      let same : g ≡ f = number (same_cell-is (Fd g) (Fd f) k) in
      brought v h (sym (setting.written cells (Fd g) v) ∙ ap (open_of (set_cell cells (Fd g) v)) same ∙ is))
      (λ k. opens f o (sym (setting.kept cells (Fd g) v (Fd f) k) ∙ is))
    where
      number : Fd g ≡ Fd f → g ≡ f
      number e = cc

      one : (a b : OpenFile) → Some a ≡ Some b → a ≡ b
      one a b e = cc

      brought : (to : Option OpenFile) → file_is_stored cells (Fd g) to → to ≡ Some o → HasFilePlace cells o.file
      brought None h e = absurd (cc)
      brought (Some a) h e = subst (λ (b : OpenFile). HasFilePlace cells b.file) (one a o e) h

  pub named-written : (ws : List Change) (cells : Cells) → Each (λ (w : Change). file_is_stored cells w.cell w.value) ws → HasNamedPlaces cells → HasNamedPlaces (write_all posix cells ws)
  named-written [] cells files named = named
  named-written (w ∷ ws) cells files named =
      let new : Cells = set_cell cells w.cell w.value in
      let stay : StayPlaces cells new = setting.stays cells w.cell w.value in
      named-written ws new
      (Each-map (λ (v : Change). file_is_stored cells v.cell v.value) (λ (v : Change). file_is_stored new v.cell v.value) (λ v. file-stays cells new stay v.cell v.value) ws files.1)
      (record {
        root = stay (Parent 1) named.root;
        opens = λ f o is. stay (Links o.file) (opens-set cells w.cell w.value files.0 named.opens f o is);
      })

  -- One call is taken back, where its inverse may be put to the cells.
  pub record IsTakenBack (cells : Cells) (e : Item) (x : LogRecord) : Type 0 where
    pub can : CanGiveAllBack cells x.undo
    pub made : put_all cells (map given_back x.undo) ≡ posix_calls.revert cells e.inverse
    pub stay : StayPlaces cells (put_all cells (map given_back x.undo))
    pub named : HasNamedPlaces (put_all cells (map given_back x.undo))

  pub is_taken_back : (cells : Cells) (e : Item) (x : LogRecord) → TakesBack e x → ArePlaced cells e → HasNamedPlaces cells → posix_calls.MayRevert cells e.inverse → IsTakenBack cells e x
  is_taken_back cells e x takes placed named may =
      let made = put-back cells e x takes in
      record {
        can = takes.may cells placed.written may;
        made = made;
        stay = subst (StayPlaces cells) (sym made) (stays-written e.inverse.before cells);
        named = subst HasNamedPlaces (sym made) (named-written e.inverse.before cells placed.files named);
      }
