-- Stores without the hidden files: calls and inverses do there what they do in the run.
use Rattle.std.proofs.Common.{◌≡◌, Bool, true, false, cond, ◌||◌, Some, [], ◌∷◌, ◌++◌, inl, inr, sym, ap, ◌∙◌, subst}
use Rattle.std.proofs.lemmas.Bool.{false≢true, or_cases, or_parts}
use Rattle.ft_laws.specs.Calls.{Calls, IsAsLeft, Agree, Fits}
use Rattle.ft_laws.specs.Laws.{Lawful, Alike, Hides, Knows, holds, is_hidden}
use Rattle.ft_laws.specs.Runs.{run}
use Rattle.ft_laws.specs.Hiding.{AgreeOff, Unseen, RunAlike, StaysHidden, UndoingHidden, HidesMore, NotOwn}
use Rattle.ft_laws.proofs.Tests.{by_test, by_option}
use Rattle.ft_laws.proofs.Running.{able_next, able_at, along_back, fits_alike, act_alike}
use Rattle.ft_laws.proofs.Deleting.{deletion, still_written}

module _ (C : Calls) where
  -- The file of a hidden cell is hidden, and the cells of a hidden file are.
  pub hidden_file : (hidden : C.File → Bool) (x : C.Cell) → is_hidden C hidden x ≡ true → (i : C.File) × (C.file_of x ≡ Some i) × (hidden i ≡ true)
  hidden_file hidden x h = by_option (C.file_of x)
      (λ none. absurd (false≢true (sym (ap (holds hidden) none) ∙ h)))
      (λ i some. (i, some, sym (ap (holds hidden) some) ∙ h))

  pub hidden_cell : (hidden : C.File → Bool) (x : C.Cell) (i : C.File) → C.file_of x ≡ Some i → hidden i ≡ true → is_hidden C hidden x ≡ true
  hidden_cell hidden x i e h = ap (holds hidden) e ∙ h

  -- What touches nothing hidden agrees.
  unseen_agree : (hidden : C.File → Bool) (f : C.Accesses) (s t : C.Store) → AgreeOff C hidden s t → Unseen C hidden f → Agree C f s t
  unseen_agree hidden f s t off un x touched = by_test (is_hidden C hidden x) (λ k. absurd (false≢true (sym (un x k) ∙ touched))) (λ k. off x k)

module _ (C : Calls) (L : Lawful C) where
  pub run_alike : RunAlike C
  run_alike hidden s t [] hs ht off un faith = (tt, off)
  run_alike hidden s t (c ∷ cs) hs ht off un faith =
      let agree = unseen_agree C hidden c.accesses s t off un.0 in
      let next : AgreeOff C hidden (C.act s c.call) (C.act t c.call) = λ x k. act_alike C L s t c hs.sound ht.sound hs.ready.0 ht.ready.0 faith.0 agree x (off x k) in
      let rest = run_alike hidden (C.act s c.call) (C.act t c.call) cs (able_next C L s c cs hs) (able_next C L t c cs ht) next un.1 faith.1 in
      ((fits_alike C L s t c hs.sound ht.sound hs.ready.0 ht.ready.0 agree faith.0, rest.0), rest.1)

  -- In a store that names no hidden file a call comes upon none, its own apart.
  knows_none : (hidden : C.File → Bool) (r s : C.Store) (a : C.Call) → Hides C hidden r s → hidden (C.own a) ≡ false → (i : C.File) → hidden i ≡ true → Knows C s a i → ⊥
  knows_none hidden r s a hides own i h (inl e) = false≢true (sym own ∙ ap hidden e ∙ h)
  knows_none hidden r s a hides own i h (inr k) = false≢true (sym (hides.unnamed k.0 i h) ∙ k.2)

  -- A call whose own file isn't hidden does in r what it does in s, and touches nothing hidden.
  pub hidden_act : (hidden : C.File → Bool) (r s : C.Store) (a : C.Call) → Hides C hidden r s → C.IsSound r → C.IsReady a r → hidden (C.own a) ≡ false
      → Alike C s r a × Unseen C hidden (C.accesses s a) × Hides C hidden (C.act r a) (C.act s a)
  hidden_act hidden r s a hides gr rr own =
      let gs = L.hides_sound hidden r s hides gr in
      let rs = L.hides_ready hidden r s a hides rr in
      let unseen : Unseen C hidden (C.accesses s a) = λ x k.
      let f = hidden_file C hidden x k in
      by_test (C.touches (C.accesses s a) x) (λ touched. absurd (knows_none hidden r s a hides own f.0 f.2 (L.comes_upon s a gs rs x f.0 f.1 touched))) (λ no. no) in
      let unwritten : (x : C.Cell) → is_hidden C hidden x ≡ true → C.changes (C.accesses s a) x ≡ false =
      λ x k. by_test (C.changes (C.accesses s a) x) (λ w. absurd (false≢true (sym (unseen x k) ∙ L.changes_touch (C.accesses s a) x w))) (λ no. no) in
      let alike = L.frame s r a gs gr rs rr tt (unseen_agree C hidden (C.accesses s a) s r (λ x k. sym (hides.others x k)) unseen) in (
        alike,
        unseen,
        record {
          others = λ x k.
              by_test (C.changes (C.accesses s a) x)
              (λ w. alike.written x w)
              (λ w. L.kept r a gr rr x (subst (λ f. C.changes f x ≡ false) (sym alike.accesses) w) ∙ hides.others x k ∙ sym (L.kept s a gs rs x w));
          gone = λ x k. L.kept s a gs rs x (unwritten x k) ∙ hides.gone x k;
          unnamed = λ x i h.
              by_test (C.changes (C.accesses s a) x)
              (λ w. by_test (C.names x (C.cell (C.act s a) x) i) (λ n. absurd (knows_none hidden r s a hides own i h (L.names_known s a gs rs x i w n))) (λ no. no))
              (λ w. ap (λ v. C.names x v i) (L.kept s a gs rs x w) ∙ hides.unnamed x i h);
        },
      )

  pub stays_hidden : StaysHidden C
  stays_hidden hidden r s c hides gr rr own fit =
      let did = hidden_act hidden r s c.call hides gr rr own in
      (record { accesses = did.0.accesses ∙ fit.accesses; reply = did.0.reply ∙ fit.reply }, subst (Unseen C hidden) fit.accesses did.1, did.2)

  pub undone_hidden : UndoingHidden C
  undone_hidden hidden s xs a ys u t able faith clear unseen reverts hides =
      let s₀ = run C s xs in
      let r = run C s (xs ++ a ∷ ys) in
      let there = able_at C L s xs (a ∷ ys) able in
      let fit : Fits C s₀ a = (along_back C (Fits C) s xs (a ∷ ys) faith).0 in
      let without = deletion C L s xs a ys able faith clear in
      let seen : (x : C.Cell) → C.touches a.accesses x ≡ true → is_hidden C hidden x ≡ false = λ x touched. by_test (is_hidden C hidden x) (λ k. absurd (false≢true (sym (unseen x k) ∙ touched))) (λ no. no) in
      let written : IsAsLeft C a.accesses (C.act s₀ a.call) t =
      λ x w. sym (hides.others x (seen x (L.changes_touch a.accesses x w))) ∙ still_written C L s xs a ys able faith clear x w in
      -- what the call wrote still stands, so it names no hidden file
      let names_none : (x : C.Cell) (i : C.File) → hidden i ≡ true → C.changes a.accesses x ≡ true → C.names x (C.cell (C.act s₀ a.call) x) i ≡ true → ⊥ =
      λ x i h w n. false≢true (sym (hides.unnamed x i h) ∙ ap (λ v. C.names x v i) (written x w) ∙ n) in
      let back = reverts t written in
      let put = back.1 in (
        without.0,
        back.0,
        record {
          others = λ x k. without.1 x ∙ ap (λ v. cond (C.changes a.accesses x) (C.cell s₀ x) v) (hides.others x k) ∙ sym (put x);
          gone = λ x k.
              let none : C.changes a.accesses x ≡ false = by_test (C.changes a.accesses x) (λ w. absurd (false≢true (sym (unseen x k) ∙ L.changes_touch a.accesses x w))) (λ no. no) in
              put x ∙ ap (λ b. cond b (C.cell s₀ x) (C.cell t x)) none ∙ hides.gone x k;
          unnamed = λ x i h.
              ap (λ v. C.names x v i) (put x)
              ∙ by_test (C.changes a.accesses x)
              (λ w. ap (λ b. C.names x (cond b (C.cell s₀ x) (C.cell t x)) i) w
              ∙ by_test (C.names x (C.cell s₀ x) i)
              (λ had. by_test (C.names x (C.cell (C.act s₀ a.call) x) i)
              (λ has. absurd (names_none x i h w has))
              (λ lost. elim (L.lets_go s₀ a.call there.sound there.ready.0 x i had lost) [
                | inl touched ↦ absurd (false≢true (sym (unseen touched.0 (hidden_cell C hidden touched.0 i touched.1 h)) ∙ subst (λ f. C.touches f touched.0 ≡ true) fit.accesses touched.2))
                | inr left ↦ absurd (names_none left.0 i h (subst (λ f. C.changes f left.0 ≡ true) fit.accesses left.1) left.2)
              ]))
              (λ no. no))
              (λ w. ap (λ b. C.names x (cond b (C.cell s₀ x) (C.cell t x)) i) w ∙ hides.unnamed x i h);
        },
      )

  pub hides_more : HidesMore C
  hides_more hidden more r s t first second = record {
    others = λ x k. let parts = split x k in first.others x parts.0 ∙ second.others x parts.1;
    gone = λ x k.
        let f = hidden_file C (λ i. hidden i || more i) x k in
        by_test (is_hidden C more x)
        (λ m. second.gone x m)
        (λ m. elim (or_cases (hidden f.0) (more f.0) f.2) [
          | inl h ↦ sym (second.others x m) ∙ first.gone x (hidden_cell C hidden x f.0 f.1 h)
          | inr h ↦ absurd (false≢true (sym m ∙ hidden_cell C more x f.0 f.1 h))
        ]);
    unnamed = λ x i h.
        by_test (more i)
        (λ m. second.unnamed x i m)
        (λ m. by_test (is_hidden C more x)
        (λ k. let f = hidden_file C more x k in L.nameless x (C.cell t x) f.0 i f.1)
        (λ k. elim (or_cases (hidden i) (more i) h) [
          | inl y ↦ ap (λ v. C.names x v i) (sym (second.others x k)) ∙ first.unnamed x i y
          | inr y ↦ absurd (false≢true (sym m ∙ y))
        ]));
  }
    where
      split : (x : C.Cell) → is_hidden C (λ i. hidden i || more i) x ≡ false → (is_hidden C hidden x ≡ false) × (is_hidden C more x ≡ false)
      split x k = by_option (C.file_of x)
          (λ none. (ap (holds hidden) none, ap (holds more) none))
          (λ i some. let parts = or_parts (hidden i) (more i) (sym (ap (holds (λ j. hidden j || more j)) some) ∙ k) in (ap (holds hidden) some ∙ parts.0, ap (holds more) some ∙ parts.1))

  pub not_own : NotOwn C
  not_own s a g r x i e stored own = stored (L.own_blank s a g r x (e ∙ ap Some (sym own)))
