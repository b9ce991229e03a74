-- A call that is taken back: a file that something names before, and nothing after, is the call's
-- own.
use Rattle.std.proofs.Common.{◌≡◌, ◌≢◌, ◌<◌, ℕ, Bool, true, false, cond, Option, List, [], ◌∷◌, ◌++◌, map, inl, inr, sym, refl, ap, ◌∙◌, subst}
use Rattle.std.proofs.lemmas.Bool.{false≢true}
use Rattle.ft_laws.specs.Lists.{Each}
use Rattle.ft_laws.specs.Calls.{Calls, Done, Fits}
use Rattle.ft_laws.specs.Laws.{Lawful, Hides, is_hidden}
use Rattle.ft_laws.specs.Runs.{run, Able, Faithful, Clear}
use Rattle.ft_laws.proofs.Lists.{Each-map}
use Rattle.ft_laws.proofs.Tests.{by_test}
use Rattle.ft_laws.proofs.Running.{run-append, along_back, able_without, able_at, run_sound, untouched}
use Rattle.ft_laws.proofs.Deleting.{deletion, still_written}
use Rattle.ft_history.specs.History.{Base, Event, number, parent, over, standing}
use Rattle.ft_history.specs.Undoing.{MayUndo}
use Rattle.ft_history.specs.Ledger.{lists}
use Rattle.ft_history.specs.Core.{Entry, IsCore}
use Rattle.ft_history.proofs.Holding.{Runs, Holds, hidden_file, split, calls, clear, able as able_split, faithful as faithful_split, holds_taken}
use Rattle.ft_history.proofs.Aborting.{older as older_taken}
use Rattle.ft_history.proofs.History.{Sound, owner, laws, undo_older}
use Rattle.ft_history.proofs.Legal.{sound_all, target_newest}
use Rattle.ft_history.proofs.Methods.{IsTakingBack}

module _ (C : Calls) where
  -- The file is the call's own: made in some sound store, the call leaves its name in a cell.
  pub record NamesOwn (d : Done C) (i : C.File) : Type 0 where
    pub store : C.Store
    pub sound : C.IsSound store
    pub ready : C.IsReady d.call store
    pub accesses : C.accesses store d.call ≡ d.accesses
    pub own : C.own d.call ≡ i
    pub cell : C.Cell
    pub named : C.names cell (C.cell (C.act store d.call) cell) i ≡ true

  -- What something names in the old store, and nothing in the new one, is the call's own.
  abbrev pub LosesOwn : C.Store → C.Store → Done C → Type 0
  LosesOwn old new d = (x : C.Cell) (i : C.File) → C.names x (C.cell old x) i ≡ true → ((z : C.Cell) → C.names z (C.cell new z) i ≡ false) → NamesOwn d i

module _ (C : Calls) (L : Lawful C) where
  -- Of a run, and the run without one call that conflicts with no later one.
  module _ (s : C.Store) (xs : List (Done C)) (a : Done C) (ys : List (Done C)) (able : Able C s (xs ++ a ∷ ys)) (faith : Faithful C s (xs ++ a ∷ ys)) (clear_of : Clear C a ys) where
    there : Able C (run C s xs) (a ∷ ys)
    there = able_at C L s xs (a ∷ ys) able

    fit : Fits C (run C s xs) a
    fit = (along_back C (Fits C) s xs (a ∷ ys) faith).0

    -- what the call touches, no later one writes
    spared : (y : C.Cell) → C.touches a.accesses y ≡ true → (c : Done C) → C.conflict a.accesses c.accesses ≡ false → C.changes c.accesses y ≡ false
    spared y touched c apart = by_test (C.changes c.accesses y)
        (λ k. absurd (false≢true (sym (L.apart c.accesses a.accesses y (L.conflict_sym a.accesses c.accesses apart) k) ∙ touched)))
        (λ k. k)

    -- so without the call it is as the call found it
    as_found : (y : C.Cell) → C.touches a.accesses y ≡ true → C.cell (run C s (xs ++ ys)) y ≡ C.cell (run C s xs) y
    as_found y touched =
        ap (λ u. C.cell u y) (run-append C s xs ys)
        ∙ untouched C L (run C s xs) ys (able_at C L s xs ys (able_without C s xs a ys able)) (along_back C (Fits C) s xs ys (deletion C L s xs a ys able faith clear_of).0) y
        (Each-map (λ c. C.conflict a.accesses c.accesses ≡ false) (λ c. C.changes c.accesses y ≡ false) (spared y touched) ys clear_of)

    lost_own : LosesOwn C (run C s (xs ++ a ∷ ys)) (run C s (xs ++ ys)) a
    lost_own x i named none =
        let put = (deletion C L s xs a ys able faith clear_of).1 in
        by_test (C.changes a.accesses x)
        (λ w.
        let left : C.names x (C.cell (C.act (run C s xs) a.call) x) i ≡ true = ap (λ v. C.names x v i) (sym (still_written C L s xs a ys able faith clear_of x w)) ∙ named in
        elim (L.names_known (run C s xs) a.call there.sound there.ready.0 x i (subst (λ f. C.changes f x ≡ true) (sym fit.accesses) w) left) [
          | inl own ↦ record { store = run C s xs; sound = there.sound; ready = there.ready.0; accesses = fit.accesses; own = own; cell = x; named = left }
          | inr seen ↦ absurd (false≢true (sym (none seen.0) ∙ ap (λ v. C.names seen.0 v i) (as_found seen.0 (subst (λ f. C.touches f seen.0 ≡ true) fit.accesses seen.1)) ∙ seen.2))
        ])
        (λ w. absurd (false≢true (sym (none x) ∙ ap (λ v. C.names x v i) (put x ∙ ap (λ b. cond b (C.cell (run C s xs) x) (C.cell (run C s (xs ++ a ∷ ys)) x)) w) ∙ named)))

  -- Without the hidden files it is so too: their cells name nothing.
  lost_hidden : (hidden : C.File → Bool) (r now s new : C.Store) (d : Done C) → Hides C hidden r s → Hides C hidden now new → LosesOwn C r now d → LosesOwn C s new d
  lost_hidden hidden r now s new d was is loses x i named none =
      loses x i
      (by_test (is_hidden C hidden x)
      (λ k. hidden_file C hidden x k (λ j e n. absurd (false≢true (sym (L.nameless x (C.cell s x) j i e) ∙ named))))
      (λ k. ap (λ v. C.names x v i) (was.others x k) ∙ named))
      (λ z. by_test (is_hidden C hidden z)
      (λ k. hidden_file C hidden z k (λ j e n. L.nameless z (C.cell now z) j i e))
      (λ k. ap (λ v. C.names z v i) (is.others z k) ∙ none z))

  -- The newest call of n's list is taken back, where the lists below n have older calls alone.
  lost_taken : (above : ℕ → ℕ → Bool) (own : Done C → Option ℕ) (base : C.Store) (cs : List (Done C)) (log : ℕ → List (Done C)) (runs : Runs C above own base cs log)
      (n : ℕ) (d : Done C) (ds : List (Done C)) (newest : log n ≡ d ∷ ds) (older : (x : ℕ) → above n x ≡ true → x ≢ n → Each (λ y. number C y < number C d) (log x))
      (hidden : C.File → Bool) (s : C.Store) (kept : ℕ → List (Entry C)) (u : C.Inverse) (es : List (Entry C)) → Holds C own base hidden cs log s kept
      → kept n ≡ record { done = d; inverse = u } ∷ es → map (λ e. e.done) es ≡ ds → LosesOwn C s (C.revert s u) d
  lost_taken above own base cs log runs n d ds newest older hidden s kept u es h is list =
      let parts = split C L above own base cs log runs n d ds newest older in
      let after = holds_taken C L above own base cs log runs n d ds newest older hidden s kept u es h is list in
      lost_hidden hidden (run C base (parts.0 ++ d ∷ parts.1)) (run C base (parts.0 ++ parts.1)) s (C.revert s u) d
      (subst (λ zs. Hides C hidden (run C base zs) s) parts.2 h.store)
      (subst (λ zs. Hides C hidden (run C base zs) (C.revert s u)) (calls C L above own base cs log runs n d ds newest older) after.1.store)
      (lost_own base parts.0 d parts.1 (able_split C L above own base cs log runs n d ds newest older) (faithful_split C L above own base cs log runs n d ds newest older)
      (clear C L above own base cs log runs n d ds newest older))

module _ (C : Calls) (L : Lawful C) (base : Base C) (base_sound : C.IsSound base.store) (h : List (Event C)) (hidden : C.File → Bool) (s : C.Store) (log : ℕ → List (Entry C)) (core : IsCore C base h hidden s log) where
  past : Sound C L base h
  past = sound_all C L base base_sound h core.legal

  -- undo_call: the newest of t's list
  pub undo_loses : (t : ℕ) (d : Done C) → MayUndo C base.transaction h t d → (u : C.Inverse) (es : List (Entry C)) → log t ≡ record { done = d; inverse = u } ∷ es → LosesOwn C s (C.revert s u) d
  undo_loses t d may u es is =
      let found = target_newest C L base base_sound h core.legal t d may.live may.target in
      lost_taken C L (over C h) (owner C h) base.store (standing C h) (lists C h) past.runs t d found.0 found.1 (undo_older C L base h past t d found.0 may.live may.no_child found.1 found.2)
      hidden s log u es (record { store = core.store; listed = core.listed; inverses = core.inverses; spared = core.spared }) is
      (tail (sym (ap (map (λ (e : Entry C). e.done)) is) ∙ core.listed t ∙ found.1))
    where
      tail : {A : Type 0} {x y : A} {xs ys : List A} → x ∷ xs ≡ y ∷ ys → xs ≡ ys
      tail e = cc

  -- abort: the newest of the list of x, at or below t, where the lists strictly below x are empty
  pub abort_loses : (t x m : ℕ) (now : C.Store) (kept : ℕ → List (Entry C)) (e : Entry C) (es : List (Entry C)) → over C h t x ≡ true → kept x ≡ e ∷ es → ((y : ℕ) → over C h x y ≡ true → y ≢ x → kept y ≡ [])
      → IsTakingBack C base h hidden log t m now kept → LosesOwn C now (C.revert now e.inverse) e.done
  abort_loses t x m now kept e es under is below way =
      let ds : List (Done C) = map (λ z. z.done) es in
      let newest : way.log x ≡ e.done ∷ ds = sym (way.holds.listed x) ∙ ap (map (λ z. z.done)) is in
      let lower : (y : ℕ) → over C h x y ≡ true → y ≢ x → way.log y ≡ [] = λ y a ne. sym (way.holds.listed y) ∙ ap (map (λ z. z.done)) (below y a ne) in
      lost_taken C L (over C h) (owner C h) base.store way.calls way.log way.drained.runs x e.done ds newest
      (older_taken C L (parent C h) (over C h) (laws C L base h past) (owner C h) base.store t (standing C h) (lists C h) x under e.done ds way.calls way.log newest lower)
      hidden now kept e.inverse es way.holds is refl

  -- the store on the way of an abort is sound
  pub abort_sound : (t m : ℕ) (now : C.Store) (kept : ℕ → List (Entry C)) → IsTakingBack C base h hidden log t m now kept → C.IsSound now
  abort_sound t m now kept way = L.hides_sound hidden (run C base.store way.calls) now way.holds.store (run_sound C L base.store way.calls way.drained.runs.able)
