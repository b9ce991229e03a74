-- On the way through an abort.
use Rattle.std.proofs.Common.{◌≡◌, ◌≢◌, ◌<◌, ◌≤◌, ◌+◌, ◌-◌, ◌&&◌, ◌||◌, ℕ, zero, suc, true, cond, Option, Some, None, inl, inr, refl, sym, ap, subst, ◌∙◌, arith, eq-eqb}
use Rattle.std.specs.Prelude.{slice_get, nat_lt}
use Rattle.std.proofs.lemmas.Bool.{and_parts, ltb-true}
use Rattle.std.proofs.lemmas.Option.{slice_get_within}
use Rattle.ft_laws.proofs.Tests.{by_test, by_option}
use Rattle.ft_history.specs.Forest.{above, meets, is_some_and, IsForest}
use Rattle.ft_history.proofs.Forest.{ForestLaws, forest_laws, climb}
use Rattle.ft_history.proofs.Words.{put_same, put_other, by_number}
use Rattle.ft_forest.specs.declared.state.State.{State}
use Rattle.ft_forest.specs.declared.state.State.TheVariants.{Live, Aborted}
use Rattle.ft_forest.specs.Transactions.{Transactions, state_of, parent_in, state_in, last_in, over_in, is_live, HasEnded, HasAborted, count_below, live_count, IsAborting, IsLastOf, IsLiveChild}
use Rattle.ft_forest.proofs.Counting.{count-less}
use Rattle.ft_forest.proofs.Seeing.{live-of}

pub not_started : (m : Transactions) (t : ℕ) → IsAborting m m t
not_started m t = record { limits = refl; base = refl; last = refl; parents = λ x. refl; states = λ x. inl refl }

-- who has a state was begun
pub begun-last : (m : Transactions) (x : ℕ) (state : State) → state_in m x ≡ Some state → x ≤ last_in m
begun-last m x state e = by_test (nat_lt m.base x)
    (λ k. by_option (slice_get m.list (x - (m.base + 1)))
    (λ none. absurd (no_state (sym (ap (λ b. state_of (cond b (slice_get m.list (x - (m.base + 1))) None)) k ∙ ap state_of none) ∙ e)))
    (λ tr some. let lt = slice_get_within m.list (x - (m.base + 1)) tr some in let above = ltb-true m.base x k in omega arith))
    (λ k. absurd (no_state (sym (ap (λ b. state_of (cond b (slice_get m.list (x - (m.base + 1))) None)) k) ∙ e)))
  where
    no_state : None ≡ Some state → ⊥
    no_state e = cc

-- who is live was begun behind the base
pub begun-after : (m : Transactions) (x : ℕ) → state_in m x ≡ Some Live → m.base < x
begun-after m x e = by_test (nat_lt m.base x)
    (λ k. ltb-true m.base x k)
    (λ k. absurd (no_state (sym (ap (λ b. state_of (cond b (slice_get m.list (x - (m.base + 1))) None)) k) ∙ e)))
  where
    no_state : None ≡ Some Live → ⊥
    no_state e = cc

-- each is at or above itself
pub over-self : (f : ℕ → Option ℕ) (t : ℕ) → above f t t ≡ true
over-self f t = meets-self t t
  where
    meets-self : (k x : ℕ) → meets f k x x ≡ true
    meets-self zero x = eq-eqb x x refl
    meets-self (suc k) x = ap (λ b. b || is_some_and (f x) (meets f k x)) (eq-eqb x x refl)

pub through : (m : Transactions) → IsForest (parent_in m) → (x y z : ℕ) → over_in m x y ≡ true → over_in m y z ≡ true → over_in m x z ≡ true
through m forest = (forest_laws (parent_in m) forest).along

module _ (now new : Transactions) (next : ℕ) (live : state_in now next ≡ Some Live) (ended : HasEnded now new next Aborted) where
  state-next : state_in new next ≡ Some Aborted
  state-next = ended.states next ∙ put_same (state_in now) next (Some Aborted) next refl

  state-other : (x : ℕ) → x ≢ next → state_in new x ≡ state_in now x
  state-other x ne = ended.states x ∙ put_other (state_in now) next (Some Aborted) x ne

  -- one live transaction less
  pub fewer-live : live_count new < live_count now
  fewer-live =
      let within = begun-last now next Live live in
      let less = count-less (λ x. is_live (state_in now x)) (λ x. is_live (state_in new x)) (suc (last_in now)) next (omega arith) (ap is_live live) (ap is_live state-next) (λ x ne. ap is_live (sym (state-other x ne))) in
      let same : live_count new ≡ count_below (λ x. is_live (state_in new x)) (suc (last_in now)) = ap (λ n. count_below (λ x. is_live (state_in new x)) (suc n)) ended.last in
      omega arith

  -- a live transaction at or below t is aborted
  pub one-more : (old : Transactions) (t : ℕ) → over_in now t next ≡ true → IsAborting old now t → IsAborting old new t
  one-more old t below h = record {
    limits = ended.limits ∙ h.limits;
    base = ended.base ∙ h.base;
    last = ended.last ∙ h.last;
    parents = λ x. ended.parents x ∙ h.parents x;
    states = λ x. by_number x next
        (λ e.
        let was : state_in old next ≡ Some Live = elim (h.states next) [ inl same ↦ sym same ∙ live | inr gone ↦ absurd (not_live (sym gone.2 ∙ live)) ] in
        inr (ap (over_in old t) e ∙ ap (λ (f : ℕ → Option ℕ). above f t next) (λ i y. sym (h.parents y) i) ∙ below, ap (state_in old) e ∙ was, ap (state_in new) e ∙ state-next))
        (λ ne. elim (h.states x) [
          | inl same ↦ inl (state-other x ne ∙ same)
          | inr gone ↦ inr (gone.0, gone.1, state-other x ne ∙ gone.2)
        ]);
  }
    where
      not_live : Some Aborted ≡ Some Live → ⊥
      not_live e = cc

  same-over : (x y : ℕ) → over_in now x y ≡ over_in new x y
  same-over x y = ap (λ (f : ℕ → Option ℕ). above f x y) (λ i z. sym (ended.parents z) i)

  -- it is the last one, and its parent is live
  pub is-last : (forest : IsForest (parent_in now)) (up : (x p : ℕ) → parent_in now x ≡ Some p → state_in now x ≡ Some Live → state_in now p ≡ Some Live) (t : ℕ) → over_in now t next ≡ true → IsLastOf new t next
  is-last forest up t below ne = (
    sym (same-over t next) ∙ below,
    λ p e.
        let was : parent_in now next ≡ Some p = sym (ended.parents next) ∙ e in
        let lower = forest next p was in
        let other : p ≢ next = omega arith in
        state-other p other ∙ up next p was live,
  )

-- the search goes on at the parent of the last one
pub from-last : (m : Transactions) (forest : IsForest (parent_in m)) (t last p : ℕ) → IsLastOf m t last → last ≢ t → parent_in m last ≡ Some p → over_in m t p ≡ true
from-last m forest t last p h ne is = elim ((forest_laws (parent_in m) forest).to_parent last p t is (h ne).0) [ inl same ↦ absurd (ne (sym same)) | inr more ↦ more ]

-- where one has no live child, nothing below it is live
pub no_deeper : (m : Transactions) (forest : IsForest (parent_in m)) (up : (x p : ℕ) → parent_in m x ≡ Some p → state_in m x ≡ Some Live → state_in m p ≡ Some Live) (next : ℕ) → ((y : ℕ) → IsLiveChild m next y → ⊥) → (x : ℕ) → over_in m next x ≡ true → state_in m x ≡ Some Live → x ≡ next
no_deeper m forest up next none = climb (parent_in m) forest (λ x. over_in m next x ≡ true → state_in m x ≡ Some Live → x ≡ next)
    (λ x top over live. sym (laws.at_top x next top over))
    (λ x p some ih over live. elim (laws.to_parent x p next some over) [
      | inl same ↦ sym same
      | inr more ↦ absurd (none x (record { child = some ∙ ap Some (ih more (up x p some live)); live = live }))
    ])
  where
    laws : ForestLaws (parent_in m) (over_in m)
    laws = forest_laws (parent_in m) forest

-- once nothing at or below t is live, all that was is aborted
pub all-aborted : (old now : Transactions) (t : ℕ) → IsAborting old now t → ((x : ℕ) → over_in now t x ≡ true → state_in now x ≢ Some Live) → HasAborted old now t
all-aborted old now t h none = record {
  limits = h.limits;
  base = h.base;
  last = h.last;
  parents = h.parents;
  states = λ x. elim (h.states x) [
    | inl same ↦ by_test (over_in old t x && is_live (state_in old x))
        (λ k.
        let parts = and_parts (over_in old t x) (is_live (state_in old x)) k in
        absurd (none x (ap (λ (f : ℕ → Option ℕ). above f t x) (λ i y. h.parents y i) ∙ parts.0) (same ∙ live-of (state_in old x) parts.1)))
        (λ k. same ∙ ap (λ b. cond b (Some Aborted) (state_in old x)) (sym k))
    | inr gone ↦ gone.2 ∙ (λ i. cond (sym gone.0 i && is_live (sym gone.1 i)) (Some Aborted) (state_in old x))
  ];
}

-- where nothing at or below the place of the search is live, that place is t
pub search-at-top : (now : Transactions) (t from : ℕ) → (from ≢ t → state_in now from ≡ Some Live) → ((x : ℕ) → over_in now from x ≡ true → state_in now x ≢ Some Live) → (x : ℕ) → over_in now t x ≡ true → state_in now x ≢ Some Live
search-at-top now t from live none = by_number from t
    (λ e. subst (λ u. (x : ℕ) → over_in now u x ≡ true → state_in now x ≢ Some Live) e none)
    (λ ne. absurd (none from (over-self (parent_in now) from) (live ne)))
