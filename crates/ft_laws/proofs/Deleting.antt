-- A call that conflicts with no later one is deleted, and its inverse does it.
use Rattle.std.proofs.Common.{◌≡◌, true, false, cond, List, [], ◌∷◌, ◌++◌, sym, ap, ◌∙◌, subst}
use Rattle.std.proofs.lemmas.Bool.{false≢true}
use Rattle.ft_laws.specs.Calls.{Calls, IsAsLeft, Agree, PutBack, Done, Fits}
use Rattle.ft_laws.specs.Laws.{Lawful}
use Rattle.ft_laws.specs.Runs.{run, Along, Faithful, Able, Clear, IsLocal, Deletion, Undoing}
use Rattle.ft_laws.proofs.Lists.{Each-map}
use Rattle.ft_laws.proofs.Tests.{by_test}
use Rattle.ft_laws.proofs.Running.{run-append, along_append, along_front, along_back, able_without, apart_changes, able_next, able_at, untouched, fits_alike}

module _ (C : Calls) (L : Lawful C) where
  -- One call on: s has had the call a, which was made in s₀, and t lacks it.
  module _ (s₀ : C.Store) (a : Done C) where
    still_apart : (s t : C.Store) (c : Done C) → C.conflict a.accesses c.accesses ≡ false → PutBack C a.accesses s₀ s t → Agree C c.accesses s t
    still_apart s t c clear put x touched =
        by_test (C.changes a.accesses x)
        (λ k. absurd (false≢true (sym (L.apart a.accesses c.accesses x clear k) ∙ touched)))
        (λ k. sym (put x ∙ ap (λ b. cond b (C.cell s₀ x) (C.cell s x)) k))

    still_put : (s t : C.Store) (c : Done C) → C.IsSound s → C.IsSound t → C.IsReady c.call s → C.IsReady c.call t → Fits C s c
        → C.conflict a.accesses c.accesses ≡ false → PutBack C a.accesses s₀ s t → PutBack C a.accesses s₀ (C.act s c.call) (C.act t c.call)
    still_put s t c gs gt rs rt fit clear put x =
        let agree = still_apart s t c clear put in
        let alike = L.frame s t c.call gs gt rs rt tt (λ y h. agree y (subst (λ f. C.touches f y ≡ true) fit.accesses h)) in
        by_test (C.changes (C.accesses s c.call) x)
        (λ k. by_test (C.changes a.accesses x)
        (λ w. absurd (false≢true (sym (apart_changes C L a.accesses c.accesses x clear w) ∙ subst (λ f. C.changes f x ≡ true) fit.accesses k)))
        (λ w. alike.written x k ∙ ap (λ b. cond b (C.cell s₀ x) (C.cell (C.act s c.call) x)) (sym w)))
        (λ k. L.kept t c.call gt rt x (subst (λ f. C.changes f x ≡ false) (sym alike.accesses) k)
        ∙ put x ∙ ap (λ v. cond (C.changes a.accesses x) (C.cell s₀ x) v) (sym (L.kept s c.call gs rs x k)))

    -- Run on from both, calls that don't conflict with a do the same, and what depends on what
    -- they touch alone stays true.
    deleted : (P : C.Store → Done C → Type 0) → IsLocal C P → (s t : C.Store) (ys : List (Done C)) → Able C s ys → Able C t ys → Clear C a ys → Faithful C s ys → PutBack C a.accesses s₀ s t
        → Along C P s ys → Along C P t ys × PutBack C a.accesses s₀ (run C s ys) (run C t ys)
    deleted P local s t [] hs ht clear faith put h = (tt, put)
    deleted P local s t (c ∷ cs) hs ht clear faith put h =
        let next = deleted P local (C.act s c.call) (C.act t c.call) cs (able_next C L s c cs hs) (able_next C L t c cs ht) clear.1 faith.1
        (still_put s t c hs.sound ht.sound hs.ready.0 ht.ready.0 faith.0 clear.0 put) h.1 in
        ((local s t c hs.sound ht.sound hs.ready.0 ht.ready.0 faith.0 (still_apart s t c clear.0 put) h.0, next.0), next.1)

  -- Right after the call, the store without it is the one before it.
  put_first : (s : C.Store) (a : Done C) → C.IsSound s → C.IsReady a.call s → Fits C s a → PutBack C a.accesses s (C.act s a.call) s
  put_first s a g r fit x =
      by_test (C.changes a.accesses x)
      (λ k. ap (λ b. cond b (C.cell s x) (C.cell (C.act s a.call) x)) (sym k))
      (λ k. sym (L.kept s a.call g r x (subst (λ f. C.changes f x ≡ false) (sym fit.accesses) k)) ∙ ap (λ b. cond b (C.cell s x) (C.cell (C.act s a.call) x)) (sym k))

  -- Deletion, with anything that depends on what each call touches alone.
  pub deletion_along : (P : C.Store → Done C → Type 0) → IsLocal C P → (s : C.Store) (xs : List (Done C)) (a : Done C) (ys : List (Done C)) → Able C s (xs ++ a ∷ ys) → Faithful C s (xs ++ a ∷ ys)
      → Clear C a ys → Along C P s (xs ++ a ∷ ys) → Along C P s (xs ++ ys) × PutBack C a.accesses (run C s xs) (run C s (xs ++ a ∷ ys)) (run C s (xs ++ ys))
  deletion_along P local s xs a ys able faith clear h =
      let s₀ = run C s xs in
      let there = able_at C L s xs (a ∷ ys) able in
      let fits = along_back C (Fits C) s xs (a ∷ ys) faith in
      let without = able_at C L s xs ys (able_without C s xs a ys able) in
      let m = deleted s₀ a P local (C.act s₀ a.call) s₀ ys (able_next C L s₀ a ys there) without clear fits.1 (put_first s₀ a there.sound there.ready.0 fits.0) (along_back C P s xs (a ∷ ys) h).1 in (
        along_append C P s xs ys (along_front C P s xs (a ∷ ys) h) m.0,
        λ x. ap (λ t. C.cell t x) (run-append C s xs ys) ∙ m.1 x ∙ ap (λ t. cond (C.changes a.accesses x) (C.cell s₀ x) (C.cell t x)) (sym (run-append C s xs (a ∷ ys))),
      )

  fits_local : IsLocal C (Fits C)
  fits_local s t c gs gt rs rt fit agree h = fits_alike C L s t c gs gt rs rt agree h

  pub deletion : Deletion C
  deletion s xs a ys able faith clear = deletion_along (Fits C) fits_local s xs a ys able faith clear faith

  -- What a call wrote still stands after later calls that don't conflict with it.
  pub still_written : (s : C.Store) (xs : List (Done C)) (a : Done C) (ys : List (Done C)) → Able C s (xs ++ a ∷ ys) → Faithful C s (xs ++ a ∷ ys) → Clear C a ys
      → (x : C.Cell) → C.changes a.accesses x ≡ true → C.cell (run C s (xs ++ a ∷ ys)) x ≡ C.cell (C.act (run C s xs) a.call) x
  still_written s xs a ys able faith clear x k =
      let s₀ = run C s xs in
      ap (λ u. C.cell u x) (run-append C s xs (a ∷ ys))
      ∙ untouched C L (C.act s₀ a.call) ys (able_next C L s₀ a ys (able_at C L s xs (a ∷ ys) able)) (along_back C (Fits C) s xs (a ∷ ys) faith).1 x
      (Each-map (λ c. C.conflict a.accesses c.accesses ≡ false) (λ c. C.changes c.accesses x ≡ false) (λ c e. apart_changes C L a.accesses c.accesses x e k) ys clear)

  pub undone : Undoing C
  undone s xs a ys u t able faith clear reverts same =
      let without = deletion s xs a ys able faith clear in
      let left : IsAsLeft C a.accesses (C.act (run C s xs) a.call) t = λ x k. sym (same x) ∙ still_written s xs a ys able faith clear x k in
      let back = reverts t left in
      (without.0, back.0, λ x. without.1 x ∙ ap (λ v. cond (C.changes a.accesses x) (C.cell (run C s xs) x) v) (same x) ∙ sym (back.1 x))
