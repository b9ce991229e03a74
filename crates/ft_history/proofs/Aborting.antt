-- An abort amid the calls of others: the lists of t and of all below it are taken back, each
-- before that of its parent, from its newest on.
use Rattle.std.proofs.Common.{◌≡◌, ◌≢◌, ◌<◌, ◌+◌, ℕ, suc, Bool, true, false, not, cond, Option, Some, None, List, [], ◌∷◌, ◌++◌, length, map, sym, refl, ap, ◌∙◌, subst, arith}
use Rattle.std.proofs.lemmas.Bool.{false≢true}
use Rattle.std.proofs.lemmas.List.{length_push}
use Rattle.ft_laws.specs.Lists.{Each, In}
use Rattle.ft_laws.specs.Calls.{Calls, Done}
use Rattle.ft_laws.specs.Laws.{Lawful}
use Rattle.ft_laws.proofs.Lists.{Each-from, Pairs-with}
use Rattle.ft_laws.proofs.Tests.{by_test}
use Rattle.ft_history.specs.History.{number}
use Rattle.ft_history.specs.Logs.{passing, joined, put, emptied}
use Rattle.ft_history.specs.Orders.{Covers, IsNested}
use Rattle.ft_history.specs.Core.{Entry, take_back, MayTakeBack}
use Rattle.ft_history.proofs.Words.{put_other, passing_all}
use Rattle.ft_history.proofs.Forest.{ForestLaws}
use Rattle.ft_history.proofs.Kept.{is_under, without, Kept, taken_owned}
use Rattle.ft_history.proofs.Holding.{Runs, Holds, runs_taken, holds_taken, taken_length, taken_passing}
use Rattle.ft_history.proofs.Draining.{IsOrder, Step, drained}

-- the owner after an abort of t
abbrev pub ended : (ℕ → ℕ → Bool) → ℕ → Option ℕ → Option ℕ
ended above t o = cond (is_under above t o) None o

-- the call stays: its owner is not at or below t
abbrev pub stays : {A : Type 0} → (ℕ → ℕ → Bool) → (A → Option ℕ) → ℕ → A → Bool
stays above owner t c = not (is_under above t (owner c))

-- An abort of t, that begins with the calls cs₀ and the lists log₀ and kept₀.
module _ (C : Calls) (above : ℕ → ℕ → Bool) (owner : Done C → Option ℕ) (base : C.Store) (t : ℕ) (cs₀ : List (Done C)) (log₀ : ℕ → List (Done C)) where
  -- So many calls are taken back, all of lists at or below t.
  pub record Drained (n : ℕ) (cs : List (Done C)) (log : ℕ → List (Done C)) : Type 0 where
    pub runs : Runs C above owner base cs log
    pub others : passing (stays above owner t) cs ≡ passing (stays above owner t) cs₀
    pub outside : (x : ℕ) → above t x ≡ false → log x ≡ log₀ x
    pub count : length cs + n ≡ length cs₀

  -- So many calls are taken back, and their inverses put to the store.
  pub record Taking (hidden : C.File → Bool) (kept₀ : ℕ → List (Entry C)) (n : ℕ) (s : C.Store) (kept : ℕ → List (Entry C)) : Type 0 where
    pub calls : List (Done C)
    pub log : ℕ → List (Done C)
    pub drained : Drained n calls log
    pub holds : Holds C owner base hidden calls log s kept
    pub same : (x : ℕ) → above t x ≡ false → kept x ≡ kept₀ x

module _ (C : Calls) where
  -- one more inverse is put to the store
  take_push : (es : List (Entry C)) (e : Entry C) (s : C.Store) → take_back C (es ++ e ∷ []) s ≡ C.revert (take_back C es s) e.inverse
  take_push [] e s = refl
  take_push (x ∷ es) e s = take_push es e (C.revert s x.inverse)

  may_push : (es : List (Entry C)) (e : Entry C) (s : C.Store) → MayTakeBack C es s → C.MayRevert (take_back C es s) e.inverse → MayTakeBack C (es ++ e ∷ []) s
  may_push [] e s all last = (last, tt)
  may_push (x ∷ es) e s all last = (all.0, may_push es e (C.revert s x.inverse) all.1 last)

module _ (C : Calls) (L : Lawful C) (parent : ℕ → Option ℕ) (above : ℕ → ℕ → Bool) (forest : ForestLaws parent above) (owner : Done C → Option ℕ) (base : C.Store) (t : ℕ) (cs₀ : List (Done C)) (log₀ : ℕ → List (Done C)) where
  abbrev IsDrained : ℕ → List (Done C) → (ℕ → List (Done C)) → Type 0
  IsDrained = Drained C above owner base t cs₀ log₀

  -- one call is taken back, the newest of x's list, where the lists strictly below x are empty
  module _ (x : ℕ) (under : above t x ≡ true) (d : Done C) (ds : List (Done C)) (cs : List (Done C)) (log : ℕ → List (Done C)) (is : log x ≡ d ∷ ds) (below : (y : ℕ) → above x y ≡ true → y ≢ x → log y ≡ []) where
    pub older : (y : ℕ) → above x y ≡ true → y ≢ x → Each (λ z. number C z < number C d) (log y)
    older y a ne = subst (Each (λ z. number C z < number C d)) (sym (below y a ne)) tt

    drained_step : (n : ℕ) → IsDrained n cs log → IsDrained (suc n) (without C (number C d) cs) (put log x ds)
    drained_step n h =
        let own = taken_owned C above owner cs log h.runs.kept x d ds is in
        let less = taken_length C L above owner base cs log h.runs x d ds is older in
        let was = h.count in
        record {
          runs = runs_taken C L above owner base cs log h.runs x d ds is older;
          others = taken_passing C L above owner base cs log h.runs x d ds is older (stays above owner t) (ap (λ o. not (is_under above t o)) own.1 ∙ ap not under) ∙ h.others;
          outside = λ y out. put_other log x ds y (λ e. false≢true (sym out ∙ ap (above t) e ∙ under)) ∙ h.outside y out;
          count = omega arith;
        }

  some_under : (o : Option ℕ) → is_under above t o ≡ true → (x : ℕ) × (o ≡ Some x) × (above t x ≡ true)
  some_under None h = absurd (false≢true h)
  some_under (Some x) h = (x, refl, h)

  -- Where all lists at or below t are empty, what is left is what stays.
  module _ (n : ℕ) (cs : List (Done C)) (log : ℕ → List (Done C)) (h : IsDrained n cs log) (empty : (x : ℕ) → above t x ≡ true → log x ≡ []) where
    left_stays : (c : Done C) → In c cs → is_under above t (owner c) ≡ false
    left_stays c i = by_test (is_under above t (owner c))
        (λ e.
        let mine = some_under (owner c) e in
        absurd (subst (In c) (empty mine.0 mine.2) (h.runs.kept.logged mine.0 c i mine.1)))
        (λ e. e)

    left_calls : passing (stays above owner t) cs₀ ≡ cs
    left_calls = sym h.others ∙ passing_all (stays above owner t) cs (Each-from (λ c. stays above owner t c ≡ true) cs (λ c i. ap not (left_stays c i)))

    left_count : length (passing (stays above owner t) cs₀) + n ≡ length cs₀
    left_count = ap (λ ds. length ds + n) left_calls ∙ h.count

    left_owner : (c : Done C) → In c cs → ended above t (owner c) ≡ owner c
    left_owner c i = ap (λ b. cond b None (owner c)) (left_stays c i)

    left_log : (x : ℕ) → emptied above log₀ t x ≡ log x
    left_log x = by_test (above t x)
        (λ e. ap (λ b. cond b [] (log₀ x)) e ∙ sym (empty x e))
        (λ e. ap (λ b. cond b [] (log₀ x)) e ∙ sym (h.outside x e))

    left_kept : Kept C above (λ c. ended above t (owner c)) cs log
    left_kept =
        let kept = h.runs.kept in
        let own : Done C → Option ℕ = λ c. ended above t (owner c) in
        record {
          rising = kept.rising;
          nested = Pairs-with (IsNested C above owner) (IsNested C above own) (λ c. In c cs)
              (λ b a i j r k. subst (λ o. Covers above o (own a)) (sym (left_owner b i)) (subst (Covers above (owner b)) (sym (left_owner a j)) (r k)))
              cs (Each-from (λ c. In c cs) cs (λ c i. i)) kept.nested;
          behind = kept.behind;
          owned = λ x c i. let mine = kept.owned x c i in (mine.0, left_owner c mine.0 ∙ mine.1);
          logged = λ x c i o. kept.logged x c i (sym (left_owner c i) ∙ o);
        }

    left_runs : Runs C above (λ c. ended above t (owner c)) base (passing (stays above owner t) cs₀) (emptied above log₀ t)
    left_runs = subst (λ ds. Runs C above (λ c. ended above t (owner c)) base ds (emptied above log₀ t)) (sym left_calls)
        (subst (Runs C above (λ c. ended above t (owner c)) base cs) (λ i x. sym (left_log x) i) (record { able = h.runs.able; faithful = h.runs.faithful; kept = left_kept }))

  drained_first : Runs C above owner base cs₀ log₀ → IsDrained 0 cs₀ log₀
  drained_first runs = record { runs = runs; others = refl; outside = λ x _. refl; count = omega arith }

  abbrev Listed : Type 0
  Listed = List (Done C) × (ℕ → List (Done C))

  abbrev AreDrained : List (Done C) → Listed → Type 0
  AreDrained ds z = IsDrained (length ds) z.0 z.1

  -- one step of it
  drains : Step parent above forest t (λ (z : Listed). z.1) AreDrained
  drains ds z x d more under is below h =
      let longer = length_push ds d in (
        (without C (number C d) z.0, put z.1 x more),
        subst (λ n. IsDrained n (without C (number C d) z.0) (put z.1 x more)) (omega arith) (drained_step x under d more z.0 z.1 is below (length ds) h),
        λ y. refl,
      )

  -- The abort leaves the run of the calls that no transaction at or below t owns.
  pub runs_dropped : (xs : List ℕ) → IsOrder above t log₀ xs → Runs C above owner base cs₀ log₀
      → Runs C above (λ c. ended above t (owner c)) base (passing (stays above owner t) cs₀) (emptied above log₀ t) × (length (passing (stays above owner t) cs₀) + length (joined log₀ xs) ≡ length cs₀)
  runs_dropped xs order runs =
      let end = drained parent above forest t (λ (z : Listed). z.1) AreDrained drains xs (cs₀, log₀) order (drained_first runs) in
      let ds : List (Done C) = joined log₀ xs in
      (left_runs (length ds) end.0.0 end.0.1 end.1 end.2, left_count (length ds) end.0.0 end.0.1 end.1 end.2)

  -- A store and lists of inverses, on the way.
  module _ (hidden : C.File → Bool) (kept₀ : ℕ → List (Entry C)) where
    abbrev IsTaking : ℕ → C.Store → (ℕ → List (Entry C)) → Type 0
    IsTaking = Taking C above owner base t cs₀ log₀ hidden kept₀

    pub taking_first : (s : C.Store) → Runs C above owner base cs₀ log₀ → Holds C owner base hidden cs₀ log₀ s kept₀ → IsTaking 0 s kept₀
    taking_first s runs holds = record { calls = cs₀; log = log₀; drained = drained_first runs; holds = holds; same = λ x _. refl }

    -- the newest inverse of x's list may be put to the store, and is, where the lists strictly
    -- below x are empty
    pub taking_step : (x n : ℕ) (s : C.Store) (kept : ℕ → List (Entry C)) (e : Entry C) (es : List (Entry C)) → above t x ≡ true → kept x ≡ e ∷ es → ((y : ℕ) → above x y ≡ true → y ≢ x → kept y ≡ []) → IsTaking n s kept
        → C.MayRevert s e.inverse × IsTaking (suc n) (C.revert s e.inverse) (put kept x es)
    taking_step x n s kept e es under is below h =
        let ds : List (Done C) = map (λ z. z.done) es in
        let newest : h.log x ≡ e.done ∷ ds = sym (h.holds.listed x) ∙ ap (map (λ z. z.done)) is in
        let lower : (y : ℕ) → above x y ≡ true → y ≢ x → h.log y ≡ [] = λ y a ne. sym (h.holds.listed y) ∙ ap (map (λ z. z.done)) (below y a ne) in
        let after = holds_taken C L above owner base h.calls h.log h.drained.runs x e.done ds newest (older x under e.done ds h.calls h.log newest lower) hidden s kept e.inverse es h.holds is refl in (
          after.0,
          record {
            calls = without C (number C e.done) h.calls;
            log = put h.log x ds;
            drained = drained_step x under e.done ds h.calls h.log newest lower n h.drained;
            holds = after.1;
            same = λ y out. put_other kept x es y (λ k. false≢true (sym out ∙ ap (above t) k ∙ under)) ∙ h.same y out;
          },
        )

    -- At the end, with all lists at or below t empty: the store and the lists hold what stays, and
    -- the count is that of the calls that went.
    module _ (n : ℕ) (s : C.Store) (kept : ℕ → List (Entry C)) (empty : (x : ℕ) → above t x ≡ true → kept x ≡ []) (h : IsTaking n s kept) where
      none_left : (x : ℕ) → above t x ≡ true → h.log x ≡ []
      none_left x a = sym (h.holds.listed x) ∙ ap (map (λ z. z.done)) (empty x a)

      pub taking_count : length (passing (stays above owner t) cs₀) + n ≡ length cs₀
      taking_count = left_count n h.calls h.log h.drained none_left

      pub taking_lists : (x : ℕ) → kept x ≡ emptied above kept₀ t x
      taking_lists x = by_test (above t x)
          (λ e. empty x e ∙ sym (ap (λ b. cond b [] (kept₀ x)) e))
          (λ e. h.same x e ∙ sym (ap (λ b. cond b [] (kept₀ x)) e))

      pub taking_holds : Holds C (λ c. ended above t (owner c)) base hidden (passing (stays above owner t) cs₀) (emptied above log₀ t) s kept
      taking_holds =
          subst (λ ds. Holds C (λ c. ended above t (owner c)) base hidden ds (emptied above log₀ t) s kept) (sym (left_calls n h.calls h.log h.drained none_left))
          (record {
            store = h.holds.store;
            listed = λ x. h.holds.listed x ∙ sym (left_log n h.calls h.log h.drained none_left x);
            inverses = h.holds.inverses;
            spared = λ c y i e. h.holds.spared c y i (sym (left_owner n h.calls h.log h.drained none_left c i) ∙ e);
          })

    abbrev Stored : Type 0
    Stored = C.Store × (ℕ → List (Entry C))

    -- from the store first on
    abbrev AreTaken : C.Store → List (Entry C) → Stored → Type 0
    AreTaken first es z = IsTaking (length es) z.0 z.1 × (z.0 ≡ take_back C es first) × MayTakeBack C es first

    -- one step of it
    takes : (first : C.Store) → Step parent above forest t (λ (z : Stored). z.1) (AreTaken first)
    takes first es z x e more under is below h =
        let next = taking_step x (length es) z.0 z.1 e more under is below h.0 in
        let longer = length_push es e in (
          (C.revert z.0 e.inverse, put z.1 x more),
          (
            subst (λ n. IsTaking n (C.revert z.0 e.inverse) (put z.1 x more)) (omega arith) next.1,
            ap (λ now. C.revert now e.inverse) h.1 ∙ sym (take_push C es e first),
            may_push C es e first h.2 (subst (λ now. C.MayRevert now e.inverse) h.1 next.0),
          ),
          λ y. refl,
        )

    -- All the lists, in any such order.
    pub take_all : (xs : List ℕ) (s : C.Store) → IsOrder above t kept₀ xs → IsTaking 0 s kept₀
        → (kept : ℕ → List (Entry C)) × IsTaking (length (joined kept₀ xs)) (take_back C (joined kept₀ xs) s) kept × ((x : ℕ) → above t x ≡ true → kept x ≡ []) × MayTakeBack C (joined kept₀ xs) s
    take_all xs s order begun =
        let end = drained parent above forest t (λ (z : Stored). z.1) (AreTaken s) (takes s) xs (s, kept₀) order (begun, refl, tt) in
        (end.0.1, subst (λ now. IsTaking (length (joined kept₀ xs)) now end.0.1) end.1.1 end.1.0, end.2, end.1.2)
