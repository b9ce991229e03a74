-- The tidying law, from the laws of hidden files: what was tidied away is hidden from then on.
use Rattle.std.proofs.Common.{◌≡◌, Bool, true, false, ◌||◌, List, [], ◌∷◌, inl, inr, sym, refl, ap, ◌∙◌}
use Rattle.std.proofs.lemmas.Bool.{false≢true, or_from}
use Rattle.ft_laws.specs.Lists.{Each}
use Rattle.ft_laws.specs.Calls.{Calls, Same, Done}
use Rattle.ft_laws.specs.Laws.{Lawful, Hides, is_hidden}
use Rattle.ft_laws.specs.Runs.{run, Faithful, Able}
use Rattle.ft_laws.specs.Tidying.{IsNamed, IsTidying, tidied, TidiedFaithful, TidyingLaw}
use Rattle.ft_laws.proofs.Tests.{by_test}
use Rattle.ft_laws.proofs.Lists.{Each-both}
use Rattle.ft_laws.proofs.Running.{able_next, same_hides}
use Rattle.ft_laws.proofs.Hiding.{hidden_file, hidden_cell, hidden_act, hides_more, not_own}

module _ (C : Calls) (L : Lawful C) where
  -- A hidden file has no name: not in the store without it, and so not in the store with it.
  pub unnamed_before : (hidden : C.File → Bool) (r s : C.Store) → Hides C hidden r s → (i : C.File) → hidden i ≡ true → IsNamed C r i → ⊥
  unnamed_before hidden r s hides i h named =
      let x = named.0 in
      by_test (is_hidden C hidden x)
      (λ k. let f = hidden_file C hidden x k in false≢true (sym (L.nameless x (C.cell r x) f.0 i f.1) ∙ named.1))
      (λ k. false≢true (sym (hides.unnamed x i h) ∙ ap (λ v. C.names x v i) (sym (hides.others x k)) ∙ named.1))

  -- Each other file has the names that it had.
  pub named_after : (hidden : C.File → Bool) (r s : C.Store) → Hides C hidden r s → (i : C.File) → IsNamed C r i → IsNamed C s i
  named_after hidden r s hides i named =
      let x = named.0 in
      by_test (is_hidden C hidden x)
      (λ k. let f = hidden_file C hidden x k in absurd (false≢true (sym (L.nameless x (C.cell r x) f.0 i f.1) ∙ named.1)))
      (λ k. (x, ap (λ v. C.names x v i) (sym (hides.others x k)) ∙ named.1))

  pub named_back : (hidden : C.File → Bool) (r s : C.Store) → Hides C hidden r s → (i : C.File) → IsNamed C s i → IsNamed C r i
  named_back hidden r s hides i named =
      let x = named.0 in
      by_test (is_hidden C hidden x)
      (λ k. let f = hidden_file C hidden x k in absurd (false≢true (sym (L.nameless x (C.cell s x) f.0 i f.1) ∙ named.1)))
      (λ k. (x, ap (λ v. C.names x v i) (hides.others x k) ∙ named.1))

  module _ (tidy : C.Store → C.Store) (dead : C.Store → C.File → Bool) (law : IsTidying C tidy dead) where
    -- Where r has what s hides, a file's cell that is dead in one of them is blank in the other
    -- when that is tidied.
    tidy_alike : (hidden : C.File → Bool) (r s : C.Store) → Hides C hidden r s → C.IsSound r → C.IsSound s → Same C (tidy r) (tidy s)
    tidy_alike hidden r s hides gr gs x =
        by_test (is_hidden C (dead r) x)
        (λ dr. (law.hides r gr).gone x dr ∙ sym (blank_right dr))
        (λ dr. by_test (is_hidden C (dead s) x)
        (λ ds. blank_left dr ds ∙ sym ((law.hides s gs).gone x ds))
        (λ ds. sym ((law.hides r gr).others x dr) ∙ kept dr ∙ (law.hides s gs).others x ds))
      where
        -- dead in r: what s has of it is gone, or s is tidied of it
        blank_right : is_hidden C (dead r) x ≡ true → C.cell (tidy s) x ≡ C.blank x
        blank_right dr =
            let f = hidden_file C (dead r) x dr in
            by_test (is_hidden C (dead s) x)
            (λ ds. (law.hides s gs).gone x ds)
            (λ ds. sym ((law.hides s gs).others x ds) ∙ elim (law.others s f.0 gs (by_test (dead s f.0) (λ k. absurd (false≢true (sym ds ∙ hidden_cell C (dead s) x f.0 f.1 k))) (λ k. k))) [
              | inl none ↦ none x f.1
              | inr named ↦ absurd (unnamed_before (dead r) r (tidy r) (law.hides r gr) f.0 f.2 (named_back hidden r s hides f.0 named))
            ])

        -- dead in s alone: r has nothing of it
        blank_left : is_hidden C (dead r) x ≡ false → is_hidden C (dead s) x ≡ true → C.cell (tidy r) x ≡ C.blank x
        blank_left dr ds =
            let f = hidden_file C (dead s) x ds in
            sym ((law.hides r gr).others x dr) ∙ elim (law.others r f.0 gr (by_test (dead r f.0) (λ k. absurd (false≢true (sym dr ∙ hidden_cell C (dead r) x f.0 f.1 k))) (λ k. k))) [
              | inl none ↦ none x f.1
              | inr named ↦ absurd (unnamed_before (dead s) s (tidy s) (law.hides s gs) f.0 f.2 (named_after hidden r s hides f.0 named))
            ]

        -- dead in neither: hidden, r has nothing of it either
        kept : is_hidden C (dead r) x ≡ false → C.cell r x ≡ C.cell s x
        kept dr = by_test (is_hidden C hidden x)
            (λ k.
            let f = hidden_file C hidden x k in
            elim (law.others r f.0 gr (by_test (dead r f.0) (λ d. absurd (false≢true (sym dr ∙ hidden_cell C (dead r) x f.0 f.1 d))) (λ d. d))) [
              | inl none ↦ none x f.1 ∙ sym (hides.gone x k)
              | inr named ↦ absurd (unnamed_before hidden r s hides f.0 f.2 named)
            ])
            (λ k. hides.others x k)

    -- r is the run, s is tidied after each call, and hidden is what was tidied away.
    tidied_on : (hidden : C.File → Bool) (r s : C.Store) (cs : List (Done C)) → Hides C hidden r s → Each (λ c. hidden (C.own c.call) ≡ false) cs → Able C r cs → Able C s cs → Faithful C r cs
        → TidiedFaithful C tidy s cs × Same C (tidy (run C r cs)) (tidy (tidied C tidy s cs))
    tidied_on hidden r s [] hides own able there faith = (tt, tidy_alike hidden r s hides able.sound there.sound)
    tidied_on hidden r s (c ∷ cs) hides own able there faith =
        let did = hidden_act C L hidden r s c.call hides able.sound able.ready.0 own.0 in
        let r' = C.act r c.call in
        let s' = C.act s c.call in
        let on = able_next C L s c cs there in
        let clean = law.hides s' on.sound in
        let more : C.File → Bool = λ i. hidden i || dead s' i in
        let apart : Each (λ d. more (C.own d.call) ≡ false) cs =
        Each-both (λ d. hidden (C.own d.call) ≡ false) (λ d. C.IsReady d.call s') (λ d. more (C.own d.call) ≡ false)
        (λ d h ready. or_from (hidden (C.own d.call)) (dead s' (C.own d.call)) h (by_test (dead s' (C.own d.call))
        (λ k. let left = law.stored s' (C.own d.call) on.sound k in absurd (not_own C L s' d.call on.sound ready left.0 (C.own d.call) left.1 left.2 refl))
        (λ k. k))) cs own.1 on.ready in
        let tidy_able : Able C (tidy s') cs = record {
          sound = L.hides_sound (dead s') s' (tidy s') clean on.sound;
          ready = Each-both (λ d. C.IsReady d.call s') (λ d. C.IsReady d.call s') (λ d. C.IsReady d.call (tidy s')) (λ d ready _. L.hides_ready (dead s') s' (tidy s') d.call clean ready) cs on.ready on.ready;
          distinct = on.distinct;
        } in
        let rest = tidied_on more r' (tidy s') cs (hides_more C L hidden (dead s') r' s' (tidy s') did.2 clean) apart (able_next C L r c cs able) tidy_able faith.1 in
        ((record { accesses = sym did.0.accesses ∙ faith.0.accesses; reply = sym did.0.reply ∙ faith.0.reply }, rest.0), rest.1)

  pub tidying : TidyingLaw C
  tidying tidy dead law s cs able faith = tidied_on tidy dead law (λ i. false) s s cs (same_hides C L s s (λ x. refl)) (none cs) able able faith
    where
      none : (ds : List (Done C)) → Each (λ d. false ≡ false) ds
      none [] = tt
      none (d ∷ ds) = (refl, none ds)
