-- Calls that are lawful among stores of one setting are so among all where the setting counts as
-- a cell.
use Rattle.std.proofs.Common.{◌≡◌, ◌⊎◌, Bool, true, false, Option, None, Some, inl, inr, sym, refl}
use Rattle.std.proofs.lemmas.Bool.{false≢true}
use Rattle.ft_laws.specs.Calls.{Calls, PutBack}
use Rattle.ft_laws.specs.Laws.{LawfulAmong, Lawful, Alike, Knows, TouchesFile, LeavesName, Hides}
use Rattle.ft_laws.specs.Settled.{settled, AreSet, KeepsSetting}
use Rattle.ft_laws.proofs.Tests.{none_some}

module _ (C : Calls) (Setting : Type 0) (setting : C.Store → Setting) (first : Setting) where
  abbrev S : Calls
  S = settled C Setting setting first

  knows : (s : C.Store) (a : C.Call) (i : C.File) → Knows C s a i → Knows S s a i
  knows s a i (inl own) = inl own
  knows s a i (inr (y, touched, named)) = inr (Some y, touched, named)

  touches_file : (f : C.Accesses) (i : C.File) → TouchesFile C f i → TouchesFile S f i
  touches_file f i (x, is, touched) = (Some x, is, touched)

  leaves_name : (s : C.Store) (a : C.Call) (i : C.File) → LeavesName C s a i → LeavesName S s a i
  leaves_name s a i (y, changed, named) = (Some y, changed, named)

  lets : (s : C.Store) (a : C.Call) (i : C.File) → TouchesFile C (C.accesses s a) i ⊎ LeavesName C s a i → TouchesFile S (C.accesses s a) i ⊎ LeavesName S s a i
  lets s a i (inl touched) = inl (touches_file (C.accesses s a) i touched)
  lets s a i (inr left) = inr (leaves_name s a i left)

  hides : (hidden : C.File → Bool) (r s : C.Store) → Hides S hidden r s → Hides C hidden r s
  hides hidden r s h = record { others = λ x k. h.others (Some x) k; gone = λ x k. h.gone (Some x) k; unnamed = λ x i k. h.unnamed (Some x) i k }

  module _ (L : LawfulAmong C (AreSet C Setting setting first)) (keeps : KeepsSetting C Setting setting first) where
    changes_touch : (f : C.Accesses) (x : Option C.Cell) → S.changes f x ≡ true → S.touches f x ≡ true
    changes_touch f None h = refl
    changes_touch f (Some x) h = L.changes_touch f x h

    apart : (f g : C.Accesses) (x : Option C.Cell) → C.conflict f g ≡ false → S.changes f x ≡ true → S.touches g x ≡ false
    apart f g None clear h = absurd (false≢true h)
    apart f g (Some x) clear h = L.apart f g x clear h

    written : (s t : C.Store) (a : C.Call) → Alike C s t a → (x : Option C.Cell) → S.changes (C.accesses s a) x ≡ true → S.cell (C.act t a) x ≡ S.cell (C.act s a) x
    written s t a alike None h = absurd (false≢true h)
    written s t a alike (Some x) h = alike.written x h

    kept : (s : C.Store) (a : C.Call) → C.IsSound s → C.IsReady a s → (x : Option C.Cell) → S.changes (C.accesses s a) x ≡ false → S.cell (C.act s a) x ≡ S.cell s x
    kept s a sound ready None h = keeps.act s a
    kept s a sound ready (Some x) h = L.kept s a sound ready x h

    put_back : (s t : C.Store) (f : C.Accesses) (u : C.Inverse) → PutBack C f s t (C.revert t u) → PutBack S f s t (C.revert t u)
    put_back s t f u put None = keeps.revert t u
    put_back s t f u put (Some x) = put x

    nameless : (x : Option C.Cell) (v : S.Value x) (i j : C.File) → S.file_of x ≡ Some i → S.names x v j ≡ false
    nameless None v i j h = refl
    nameless (Some x) v i j h = L.nameless x v i j h

    own_blank : (s : C.Store) (a : C.Call) → C.IsSound s → C.IsReady a s → (x : Option C.Cell) → S.file_of x ≡ Some (C.own a) → S.cell s x ≡ S.blank x
    own_blank s a sound ready None h = absurd (none_some (C.own a) h)
    own_blank s a sound ready (Some x) h = L.own_blank s a sound ready x h

    comes_upon : (s : C.Store) (a : C.Call) → C.IsSound s → C.IsReady a s → (x : Option C.Cell) (i : C.File) → S.file_of x ≡ Some i → S.touches (C.accesses s a) x ≡ true → Knows S s a i
    comes_upon s a sound ready None i h touched = absurd (none_some i h)
    comes_upon s a sound ready (Some x) i h touched = knows s a i (L.comes_upon s a sound ready x i h touched)

    names_known : (s : C.Store) (a : C.Call) → C.IsSound s → C.IsReady a s → (x : Option C.Cell) (i : C.File) → S.changes (C.accesses s a) x ≡ true → S.names x (S.cell (C.act s a) x) i ≡ true → Knows S s a i
    names_known s a sound ready None i changed named = absurd (false≢true changed)
    names_known s a sound ready (Some x) i changed named = knows s a i (L.names_known s a sound ready x i changed named)

    lets_go : (s : C.Store) (a : C.Call) → C.IsSound s → C.IsReady a s → (x : Option C.Cell) (i : C.File) → S.names x (S.cell s x) i ≡ true → S.names x (S.cell (C.act s a) x) i ≡ false
        → TouchesFile S (C.accesses s a) i ⊎ LeavesName S s a i
    lets_go s a sound ready None i had lost = absurd (false≢true had)
    lets_go s a sound ready (Some x) i had lost = lets s a i (L.lets_go s a sound ready x i had lost)

    pub settled_lawful : Lawful S
    settled_lawful = record {
      changes_touch = changes_touch;
      conflict_sym = L.conflict_sym;
      apart = apart;
      frame = λ s t a gs gt rs rt akin agree.
          let alike = L.frame s t a gs gt rs rt (agree None refl) (λ x h. agree (Some x) h) in
          record { accesses = alike.accesses; reply = alike.reply; written = written s t a alike };
      kept = kept;
      stays_sound = L.stays_sound;
      stays_ready = L.stays_ready;
      inverts = λ s a sound ready t left.
          let back = L.inverts s a sound ready t (λ x k. left (Some x) k) in
          (back.0, put_back s t (C.accesses s a) (C.inverse s a) back.1);
      nameless = nameless;
      own_blank = own_blank;
      comes_upon = comes_upon;
      names_known = names_known;
      lets_go = lets_go;
      hides_sound = λ hidden r s h sound. L.hides_sound hidden r s (hides hidden r s h) sound;
      hides_ready = λ hidden r s a h ready. L.hides_ready hidden r s a (hides hidden r s h) ready;
    }
