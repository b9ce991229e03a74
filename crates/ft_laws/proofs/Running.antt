-- What runs keep: what is able to run is able to go on, and a call does the same in stores that
-- agree on what it touches.
use Rattle.std.proofs.Common.{◌≡◌, ◌≢◌, ℕ, true, false, cond, Option, None, Some, List, [], ◌∷◌, ◌++◌, sym, refl, ap, ◌∙◌, subst}
use Rattle.std.proofs.lemmas.Bool.{false≢true}
use Rattle.ft_laws.specs.Lists.{Each}
use Rattle.ft_laws.specs.Calls.{Calls, Same, Agree, Reverts, Done, Fits}
use Rattle.ft_laws.specs.Laws.{Lawful, Hides, holds}
use Rattle.ft_laws.specs.Runs.{run, made_all, Along, Faithful, Able}
use Rattle.ft_laws.proofs.Lists.{Each-both, Each-without, Pairs-without}
use Rattle.ft_laws.proofs.Tests.{by_test}

module _ (C : Calls) where
  pub run-append : (s : C.Store) (xs ys : List (Done C)) → run C s (xs ++ ys) ≡ run C (run C s xs) ys
  run-append s [] ys = refl
  run-append s (x ∷ xs) ys = run-append (C.act s x.call) xs ys

  pub along_append : (P : C.Store → Done C → Type 0) (s : C.Store) (xs ys : List (Done C)) → Along C P s xs → Along C P (run C s xs) ys → Along C P s (xs ++ ys)
  along_append P s [] ys h k = k
  along_append P s (x ∷ xs) ys h k = (h.0, along_append P (C.act s x.call) xs ys h.1 k)

  pub along_front : (P : C.Store → Done C → Type 0) (s : C.Store) (xs ys : List (Done C)) → Along C P s (xs ++ ys) → Along C P s xs
  along_front P s [] ys h = tt
  along_front P s (x ∷ xs) ys h = (h.0, along_front P (C.act s x.call) xs ys h.1)

  pub along_back : (P : C.Store → Done C → Type 0) (s : C.Store) (xs ys : List (Done C)) → Along C P s (xs ++ ys) → Along C P (run C s xs) ys
  along_back P s [] ys h = h
  along_back P s (x ∷ xs) ys h = along_back P (C.act s x.call) xs ys h.1

  -- Calls that are made one after another are faithful to what is kept of them.
  pub made_faithful : (s : C.Store) (t : ℕ) (calls : List C.Call) → Faithful C s (made_all C s t calls)
  made_faithful s t [] = tt
  made_faithful s t (a ∷ more) = (record { accesses = refl; reply = refl }, made_faithful (C.act s a) t more)

  pub able_without : (s : C.Store) (xs : List (Done C)) (a : Done C) (ys : List (Done C)) → Able C s (xs ++ a ∷ ys) → Able C s (xs ++ ys)
  able_without s xs a ys h = record {
    sound = h.sound;
    ready = Each-without (λ c. C.IsReady c.call s) xs a ys h.ready;
    distinct = Pairs-without (λ c d. C.stamp c.call ≢ C.stamp d.call) xs a ys h.distinct;
  }

module _ (C : Calls) (L : Lawful C) where
  -- equal cells: nothing is hidden
  pub same_hides : (s t : C.Store) → Same C s t → Hides C (λ i. false) s t
  same_hides s t same = record { others = λ x h. same x; gone = λ x h. absurd (false≢true (sym (none (C.file_of x)) ∙ h)); unnamed = λ x i h. absurd (false≢true h) }
    where
      none : (o : Option C.File) → holds (λ i. false) o ≡ false
      none None = refl
      none (Some i) = refl

  pub same_sound : (s t : C.Store) → Same C s t → C.IsSound s → C.IsSound t
  same_sound s t same g = L.hides_sound (λ i. false) s t (same_hides s t same) g

  pub same_ready : (s t : C.Store) (a : C.Call) → Same C s t → C.IsReady a s → C.IsReady a t
  same_ready s t a same r = L.hides_ready (λ i. false) s t a (same_hides s t same) r

  -- Accesses that don't conflict with those that write a cell don't touch it.
  pub apart_changes : (f g : C.Accesses) (x : C.Cell) → C.conflict f g ≡ false → C.changes f x ≡ true → C.changes g x ≡ false
  apart_changes f g x clear k = by_test (C.changes g x) (λ m. absurd (false≢true (sym (L.apart f g x clear k) ∙ L.changes_touch g x m))) (λ m. m)

  pub able_next : (s : C.Store) (c : Done C) (cs : List (Done C)) → Able C s (c ∷ cs) → Able C (C.act s c.call) cs
  able_next s c cs h = record {
    sound = L.stays_sound s c.call h.sound h.ready.0;
    ready = Each-both (λ d. C.IsReady d.call s) (λ d. C.stamp c.call ≢ C.stamp d.call) (λ d. C.IsReady d.call (C.act s c.call)) (λ d r n. L.stays_ready s c.call d.call h.sound h.ready.0 r n) cs h.ready.1 h.distinct.0;
    distinct = h.distinct.1;
  }

  pub able_at : (s : C.Store) (xs ys : List (Done C)) → Able C s (xs ++ ys) → Able C (run C s xs) ys
  able_at s [] ys h = h
  able_at s (x ∷ xs) ys h = able_at (C.act s x.call) xs ys (able_next s x (xs ++ ys) h)

  -- The store after a run is sound, and a call with another stamp may be made there.
  pub run_sound : (s : C.Store) (cs : List (Done C)) → Able C s cs → C.IsSound (run C s cs)
  run_sound s [] able = able.sound
  run_sound s (c ∷ cs) able = run_sound (C.act s c.call) cs (able_next s c cs able)

  pub run_ready : (a : C.Call) (s : C.Store) (cs : List (Done C)) → Able C s cs → C.IsReady a s → Each (λ c. C.stamp c.call ≢ C.stamp a) cs → C.IsReady a (run C s cs)
  run_ready a s [] able r h = r
  run_ready a s (c ∷ cs) able r h = run_ready a (C.act s c.call) cs (able_next s c cs able) (L.stays_ready s c.call a able.sound able.ready.0 r h.0) h.1

  -- Calls that don't write a cell leave it.
  pub untouched : (s : C.Store) (cs : List (Done C)) → Able C s cs → Faithful C s cs → (x : C.Cell) → Each (λ c. C.changes c.accesses x ≡ false) cs → C.cell (run C s cs) x ≡ C.cell s x
  untouched s [] able faith x h = refl
  untouched s (c ∷ cs) able faith x h =
      untouched (C.act s c.call) cs (able_next s c cs able) faith.1 x h.1
      ∙ L.kept s c.call able.sound able.ready.0 x (subst (λ f. C.changes f x ≡ false) (sym faith.0.accesses) h.0)

  -- What is kept of a call fits each store that agrees on what it touches, and so does what its
  -- inverse does.
  pub fits_alike : (s t : C.Store) (c : Done C) → C.IsSound s → C.IsSound t → C.IsReady c.call s → C.IsReady c.call t → Agree C c.accesses s t → Fits C s c → Fits C t c
  fits_alike s t c gs gt rs rt agree fit =
      let alike = L.frame s t c.call gs gt rs rt tt (λ x h. agree x (subst (λ f. C.touches f x ≡ true) fit.accesses h)) in
      record { accesses = alike.accesses ∙ fit.accesses; reply = alike.reply ∙ fit.reply }

  pub reverts_alike : (s t : C.Store) (c : Done C) (u : C.Inverse) → C.IsSound s → C.IsSound t → C.IsReady c.call s → C.IsReady c.call t → Fits C s c → Agree C c.accesses s t
      → Reverts C s c.call c.accesses u → Reverts C t c.call c.accesses u
  reverts_alike s t c u gs gt rs rt fit agree reverts v h =
      let alike = L.frame s t c.call gs gt rs rt tt (λ y k. agree y (subst (λ f. C.touches f y ≡ true) fit.accesses k)) in
      let back = reverts v (λ y k. h y k ∙ alike.written y (subst (λ f. C.changes f y ≡ true) (sym fit.accesses) k)) in (
        back.0,
        λ x. back.1 x ∙ by_test (C.changes c.accesses x)
            (λ k. ap (λ b. cond b (C.cell s x) (C.cell v x)) k ∙ agree x (L.changes_touch c.accesses x k) ∙ ap (λ b. cond b (C.cell t x) (C.cell v x)) (sym k))
            (λ k. ap (λ b. cond b (C.cell s x) (C.cell v x)) k ∙ ap (λ b. cond b (C.cell t x) (C.cell v x)) (sym k)),
      )

  -- What a call writes is the same in stores that agree on what it touches; and where the stores
  -- are equal in a cell, they stay so.
  pub act_alike : (s t : C.Store) (c : Done C) → C.IsSound s → C.IsSound t → C.IsReady c.call s → C.IsReady c.call t → Fits C s c → Agree C c.accesses s t
      → (x : C.Cell) → C.cell s x ≡ C.cell t x → C.cell (C.act s c.call) x ≡ C.cell (C.act t c.call) x
  act_alike s t c gs gt rs rt fit agree x e =
      let alike = L.frame s t c.call gs gt rs rt tt (λ y h. agree y (subst (λ f. C.touches f y ≡ true) fit.accesses h)) in
      by_test (C.changes (C.accesses s c.call) x)
      (λ k. sym (alike.written x k))
      (λ k. L.kept s c.call gs rs x k ∙ e ∙ sym (L.kept t c.call gt rt x (subst (λ f. C.changes f x ≡ false) (sym alike.accesses) k)))

  -- From stores that are the same, calls do the same.
  pub same_run : (s t : C.Store) (cs : List (Done C)) → Same C s t → Able C s cs → Able C t cs → Faithful C s cs → Faithful C t cs × Same C (run C s cs) (run C t cs)
  same_run s t [] same hs ht faith = (tt, same)
  same_run s t (c ∷ cs) same hs ht faith =
      let next : Same C (C.act s c.call) (C.act t c.call) = λ x. act_alike s t c hs.sound ht.sound hs.ready.0 ht.ready.0 faith.0 (λ y _. same y) x (same x) in
      let rest = same_run (C.act s c.call) (C.act t c.call) cs next (able_next s c cs hs) (able_next t c cs ht) faith.1 in
      ((fits_alike s t c hs.sound ht.sound hs.ready.0 ht.ready.0 (λ x _. same x) faith.0, rest.0), rest.1)
