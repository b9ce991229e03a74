-- What callers see of the records.
use Rattle.std.proofs.Common.{◌≡◌, ◌≢◌, ◌<◌, ◌≤◌, ◌+◌, ◌-◌, ◌^◌, ◌==◌, ◌&&◌, ℕ, zero, suc, Bool, true, false, cond, Option, Some, None, List, [], ◌∷◌, inl, inr, length, refl, sym, ap, subst, ◌∙◌, arith, eq-eqb, ne_eqb, add-one, add_assoc}
use Rattle.std.specs.Prelude.{slice_get, count_by}
use Rattle.std.specs.Option.{option_map}
use Rattle.std.proofs.lemmas.Bool.{false≢true, cases_lt, lt-ltb, le-ltb, and_parts}
use Rattle.std.proofs.lemmas.List.{length-map}
use Rattle.std.proofs.lemmas.List.Sums.{sum_by-cons}
use Rattle.std.proofs.lemmas.Option.{slice_get-map, slice_get_past}
use Rattle.ft_laws.proofs.Tests.{by_test, by_option}
use Rattle.ft_history.specs.Forest.{above, is_some_and, map_or, IsForest}
use Rattle.ft_history.proofs.Words.{by_number, same_some, none_some}
use Rattle.ft_history.proofs.Forest.{climb, ForestLaws, forest_laws}
use Rattle.ft_forest.specs.declared.limits.ForestLimits.{ForestLimits}
use Rattle.ft_forest.specs.declared.state.State.{State}
use Rattle.ft_forest.specs.declared.state.State.TheVariants.{Live, Committed, Aborted}
use Rattle.ft_forest.specs.declared.records.Records.{Records}
use Rattle.ft_forest.specs.Transactions.{Transaction, Transactions, transaction_in, parent_of, state_of, parent_in, state_in, last_in, over_in, is_live_state, is_live, depth_within, depth_in, is_live_child, live_children_in, IsLiveChild, IsLiveUnder, IsYoungestChild, IsOlderSibling, count_below}
use Rattle.ft_forest.specs.Records.{Links, IsSibling, IsYoungest, IsOlder, links_of, number_at, transaction_from, transactions_of, AreRecords, is_child_at, DepthIs, parent_from, state_from}
use Rattle.ft_forest.proofs.Counting.{child-of, count-same, count-none, count-found, count-zero}

-- a number of the base or before, or that of a place
pub by_place : {P : Type 0} (base t : ℕ) → (t ≤ base → P) → ((i : ℕ) → t ≡ number_at base i → P) → P
by_place base t old new = elim (cases_lt base t) [ inl lt ↦ new (t - (base + 1)) (omega arith) | inr ge ↦ old ge ]

pub same_place : (base i j : ℕ) → number_at base i ≡ number_at base j → i ≡ j
same_place base i j e = omega arith

-- the transaction at a place
transaction-here : (m : Transactions) (i : ℕ) → transaction_in m (number_at m.base i) ≡ slice_get m.list i
transaction-here m i =
    let gap : number_at m.base i - (m.base + 1) ≡ i = omega arith in
    ap (λ b. cond b (slice_get m.list (number_at m.base i - (m.base + 1))) None) (lt-ltb m.base (number_at m.base i) (omega arith))
    ∙ ap (slice_get m.list) gap

transaction-before : (m : Transactions) (t : ℕ) → t ≤ m.base → transaction_in m t ≡ None
transaction-before m t le = ap (λ b. cond b (slice_get m.list (t - (m.base + 1))) None) (le-ltb m.base t le)

module _ (limits : ForestLimits) (base : ℕ) (r : Records) where
  abbrev value : Transactions
  value = transactions_of limits base r

  abbrev links : Links
  links = links_of r

  pub transaction-at : (i : ℕ) → transaction_in value (number_at base i) ≡ option_map (transaction_from base) (slice_get r.list.items i)
  transaction-at i = transaction-here value i ∙ slice_get-map (transaction_from base) r.list.items i

  pub state-at : (i : ℕ) → state_in value (number_at base i) ≡ links.state i
  state-at i = ap state_of (transaction-at i) ∙ by_record (slice_get r.list.items i)
    where
      by_record : (o : Option ℕ) → state_of (option_map (transaction_from base) o) ≡ state_from o
      by_record None = refl
      by_record (Some x) = refl

  pub parent-at : (i : ℕ) → parent_in value (number_at base i) ≡ option_map (number_at base) (links.parent i)
  parent-at i = ap parent_of (transaction-at i) ∙ by_record (slice_get r.list.items i)
    where
      by_record : (o : Option ℕ) → parent_of (option_map (transaction_from base) o) ≡ option_map (number_at base) (parent_from o)
      by_record None = refl
      by_record (Some x) = refl

  pub state-none : (t : ℕ) → t ≤ base → state_in value t ≡ None
  state-none t le = ap state_of (transaction-before value t le)

  pub parent-none : (t : ℕ) → t ≤ base → parent_in value t ≡ None
  parent-none t le = ap parent_of (transaction-before value t le)

  -- no place has this number
  pub state-absent : (t : ℕ) → ((i : ℕ) → i < length r.list.items → t ≢ number_at base i) → state_in value t ≡ None
  state-absent t absent = by_place base t (state-none t) (λ i e. elim (cases_lt i (length r.list.items)) [
    | inl lt ↦ absurd (absent i lt e)
    | inr ge ↦ ap (state_in value) e ∙ state-at i ∙ ap state_from (slice_get_past r.list.items i ge)
  ])

  pub parent-absent : (t : ℕ) → ((i : ℕ) → i < length r.list.items → t ≢ number_at base i) → parent_in value t ≡ None
  parent-absent t absent = by_place base t (parent-none t) (λ i e. elim (cases_lt i (length r.list.items)) [
    | inl lt ↦ absurd (absent i lt e)
    | inr ge ↦ ap (parent_in value) e ∙ parent-at i ∙ ap (λ o. option_map (number_at base) (parent_from o)) (slice_get_past r.list.items i ge)
  ])

  pub last-is : last_in value ≡ base + length r.list.items
  last-is = ap (λ n. base + n) (length-map r.list.items (transaction_from base))

module _ (limits : ForestLimits) (base : ℕ) (r : Records) (h : AreRecords limits base r) where
  -- a parent has a smaller number
  pub value-forest : IsForest (parent_in (transactions_of limits base r))
  value-forest x p up = by_place base x
      (λ le. absurd (none_some p (sym (parent-none limits base r x le) ∙ up)))
      (λ i e. by_option ((links_of r).parent i)
      (λ none. absurd (none_some p (sym (ap (parent_in (transactions_of limits base r)) e ∙ parent-at limits base r i ∙ ap (option_map (number_at base)) none) ∙ up)))
      (λ q some.
      let is : number_at base q ≡ p = same_some (number_at base q) p (sym (ap (parent_in (transactions_of limits base r)) e ∙ parent-at limits base r i ∙ ap (option_map (number_at base)) some) ∙ up) in
      let lt = h.linked.lower i q some in
      omega arith))

  pub value-laws : ForestLaws (parent_in (transactions_of limits base r)) (over_in (transactions_of limits base r))
  value-laws = forest_laws (parent_in (transactions_of limits base r)) value-forest

module _ (limits : ForestLimits) (base : ℕ) (r : Records) (i t : ℕ) (is : t ≡ number_at base i) where
  -- a transaction whose record stands at i
  pub state-here : state_in (transactions_of limits base r) t ≡ (links_of r).state i
  state-here = ap (state_in (transactions_of limits base r)) is ∙ state-at limits base r i

-- How deep.
module _ (parent : ℕ → Option ℕ) (lower : IsForest parent) where
  depth_steps : (j k x : ℕ) → x ≤ j → x ≤ k → depth_within parent j x ≡ depth_within parent k x
  depth_steps zero zero x a b = refl
  depth_steps zero (suc k) x a b = by_option (parent x)
      (λ e. sym (ap (λ o. map_or 1 o (λ p. suc (depth_within parent k p))) e))
      (λ p e. let lt = lower x p e in absurd (omega arith))
  depth_steps (suc j) zero x a b = by_option (parent x)
      (λ e. ap (λ o. map_or 1 o (λ p. suc (depth_within parent j p))) e)
      (λ p e. let lt = lower x p e in absurd (omega arith))
  depth_steps (suc j) (suc k) x a b = by_option (parent x)
      (λ e. ap (λ o. map_or 1 o (λ p. suc (depth_within parent j p))) e ∙ sym (ap (λ o. map_or 1 o (λ p. suc (depth_within parent k p))) e))
      (λ p e. let lt = lower x p e in
      ap (λ o. map_or 1 o (λ p. suc (depth_within parent j p))) e ∙ ap suc (depth_steps j k p (omega arith) (omega arith))
      ∙ sym (ap (λ o. map_or 1 o (λ p. suc (depth_within parent k p))) e))

  pub depth_root : (x : ℕ) → parent x ≡ None → depth_within parent x x ≡ 1
  depth_root x e = depth_steps x (suc x) x (omega arith) (omega arith) ∙ ap (λ o. map_or 1 o (λ p. suc (depth_within parent x p))) e

  pub depth_child : (x p : ℕ) → parent x ≡ Some p → depth_within parent x x ≡ depth_within parent p p + 1
  depth_child x p e = let lt = lower x p e in
      depth_steps x (suc x) x (omega arith) (omega arith) ∙ ap (λ o. map_or 1 o (λ p. suc (depth_within parent x p))) e
      ∙ ap suc (depth_steps x p p (omega arith) (omega arith)) ∙ sym (add-one (depth_within parent p p))

module _ (limits : ForestLimits) (base : ℕ) (r : Records) (h : AreRecords limits base r) where
  -- the depth that is kept is the depth
  pub depth-seen : (i : ℕ) → (links_of r).state i ≡ Some Live → (links_of r).depth i ≡ depth_in (transactions_of limits base r) (number_at base i)
  depth-seen = climb (links_of r).parent h.linked.lower (λ i. (links_of r).state i ≡ Some Live → (links_of r).depth i ≡ depth_in (transactions_of limits base r) (number_at base i))
      (λ i none live.
      subst (λ o. DepthIs (links_of r) o ((links_of r).depth i)) none (h.linked.depth i live)
      ∙ sym (depth_root (parent_in (transactions_of limits base r)) (value-forest limits base r h) (number_at base i) (parent-at limits base r i ∙ ap (option_map (number_at base)) none)))
      (λ i p some ih live.
      subst (λ o. DepthIs (links_of r) o ((links_of r).depth i)) some (h.linked.depth i live)
      ∙ ap (λ n. n + 1) (ih (h.linked.live_parent i p live some))
      ∙ sym (depth_child (parent_in (transactions_of limits base r)) (value-forest limits base r h) (number_at base i) (number_at base p) (parent-at limits base r i ∙ ap (option_map (number_at base)) some)))

-- How many children.

-- the first of the numbers, and the others
count-first : (f : ℕ → Bool) (n : ℕ) → count_below f (suc n) ≡ cond (f 0) 1 0 + count_below (λ i. f (suc i)) n
count-first f zero = omega arith
count-first f (suc n) =
    let rest : count_below f (suc n) ≡ cond (f 0) 1 0 + count_below (λ i. f (suc i)) n = count-first f n in
    ap (λ k. k + cond (f (suc n)) 1 0) rest ∙ add_assoc (cond (f 0) 1 0) (count_below (λ i. f (suc i)) n) (cond (f (suc n)) 1 0)

abbrev passes : {A : Type 0} → (A → Bool) → Option A → Bool
passes p None = false
passes p (Some x) = p x

count-list : {A : Type 0} (p : A → Bool) (xs : List A) → count_by p xs ≡ count_below (λ i. passes p (slice_get xs i)) (length xs)
count-list p [] = refl
count-list p (x ∷ xs) = sum_by-cons (λ y. cond (p y) 1 0) x xs ∙ ap (λ n. cond (p x) 1 0 + n) (count-list p xs) ∙ sym (count-first (λ i. passes p (slice_get (x ∷ xs) i)) (length xs))

none_live : None ≡ Some Live → ⊥
none_live e = cc

pub live-of : (o : Option State) → is_live o ≡ true → o ≡ Some Live
live-of None e = absurd (false≢true e)
live-of (Some Live) e = refl
live-of (Some Committed) e = absurd (false≢true e)
live-of (Some Aborted) e = absurd (false≢true e)

-- A live child is counted, and one that is counted is a live child.
module _ (m : Transactions) (t : ℕ) where
  child-up : (o : Option Transaction) → passes (is_live_child t) o ≡ true → (parent_of o ≡ Some t) × (state_of o ≡ Some Live)
  child-up None e = absurd (false≢true e)
  child-up (Some x) e = let parts = and_parts (is_some_and x.parent (λ q. q == t)) (is_live_state x.state) e in (child-of x.parent t parts.0, live-of (Some x.state) parts.1)

  child-down : (o : Option Transaction) → parent_of o ≡ Some t → state_of o ≡ Some Live → passes (is_live_child t) o ≡ true
  child-down None up live = absurd (none_some t up)
  child-down (Some x) up live = (λ j. is_some_and (up j) (λ q. q == t) && is_live (live j)) ∙ ap (λ b. b && true) (eq-eqb t t refl)

  abbrev is_child : ℕ → Bool
  is_child i = passes (is_live_child t) (slice_get m.list i)

  pub some-child : 0 < live_children_in m t → (x : ℕ) × IsLiveChild m t x
  some-child lt =
      let found = count-found is_child (length m.list) (subst (λ n. 0 < n) (count-list (is_live_child t) m.list) lt) in
      let is = child-up (slice_get m.list found.0) found.2 in
      (number_at m.base found.0, record { child = ap parent_of (transaction-here m found.0) ∙ is.0; live = ap state_of (transaction-here m found.0) ∙ is.1 })

  pub no-child : live_children_in m t ≡ 0 → (x : ℕ) → IsLiveChild m t x → ⊥
  no-child none x is = by_place m.base x
      (λ le. none_live (sym (ap state_of (transaction-before m x le)) ∙ is.live))
      (λ i e.
      let here : transaction_in m x ≡ slice_get m.list i = ap (transaction_in m) e ∙ transaction-here m i in
      elim (cases_lt i (length m.list)) [
        | inl lt ↦ false≢true (sym (count-zero is_child (length m.list) (sym (count-list (is_live_child t) m.list) ∙ none) i lt) ∙ child-down (slice_get m.list i) (sym (ap parent_of here) ∙ is.child) (sym (ap state_of here) ∙ is.live))
        | inr ge ↦ none_live (sym (ap state_of (here ∙ slice_get_past m.list i ge)) ∙ is.live)
      ])

module _ (limits : ForestLimits) (base : ℕ) (r : Records) where
  child-seen : (t i : ℕ) → passes (is_live_child t) (slice_get (transactions_of limits base r).list i) ≡ (is_some_and (option_map (number_at base) ((links_of r).parent i)) (λ q. q == t) && is_live ((links_of r).state i))
  child-seen t i = ap (passes (is_live_child t)) (slice_get-map (transaction_from base) r.list.items i) ∙ by_record (slice_get r.list.items i)
    where
      by_record : (o : Option ℕ) → passes (is_live_child t) (option_map (transaction_from base) o) ≡ (is_some_and (option_map (number_at base) (parent_from o)) (λ q. q == t) && is_live (state_from o))
      by_record None = refl
      by_record (Some x) = refl

  same_child : (i : ℕ) (o : Option ℕ) → is_some_and (option_map (number_at base) o) (λ q. q == number_at base i) ≡ is_some_and o (λ q. q == i)
  same_child i None = refl
  same_child i (Some q) = by_number q i
      (λ e. eq-eqb (number_at base q) (number_at base i) (ap (number_at base) e) ∙ sym (eq-eqb q i e))
      (λ ne. ne_eqb (number_at base q) (number_at base i) (λ e. ne (same_place base q i e)) ∙ sym (ne_eqb q i ne))

  pub children-seen : (i : ℕ) → live_children_in (transactions_of limits base r) (number_at base i) ≡ count_below (is_child_at (links_of r) i) (length r.list.items)
  children-seen i =
      count-list (is_live_child (number_at base i)) (transactions_of limits base r).list
      ∙ ap (count_below (λ j. passes (is_live_child (number_at base i)) (slice_get (transactions_of limits base r).list j))) (length-map r.list.items (transaction_from base))
      ∙ count-same _ _ (length r.list.items) (λ j lt. child-seen (number_at base i) j ∙ ap (λ b. b && is_live ((links_of r).state j)) (same_child i ((links_of r).parent j)))

module _ (limits : ForestLimits) (base : ℕ) (r : Records) (h : AreRecords limits base r) (t : ℕ) where
  abbrev is_counted : ℕ → Bool
  is_counted i = is_some_and (option_map (number_at base) ((links_of r).parent i)) (λ q. q == t) && is_live ((links_of r).state i)

  all-counted : live_children_in (transactions_of limits base r) t ≡ count_below is_counted (length r.list.items)
  all-counted =
      count-list (is_live_child t) (transactions_of limits base r).list
      ∙ ap (count_below (λ j. passes (is_live_child t) (slice_get (transactions_of limits base r).list j))) (length-map r.list.items (transaction_from base))
      ∙ count-same _ _ (length r.list.items) (λ j lt. child-seen limits base r t j)

  -- one that was not begun has none
  pub absent-children : ((i : ℕ) → i < length r.list.items → t ≢ number_at base i) → live_children_in (transactions_of limits base r) t ≡ 0
  absent-children absent = all-counted ∙ count-none is_counted (length r.list.items) (λ i lt. by_test (is_counted i)
      (λ k.
      let parts = and_parts (is_some_and (option_map (number_at base) ((links_of r).parent i)) (λ q. q == t)) (is_live ((links_of r).state i)) k in
      by_option ((links_of r).parent i)
      (λ none. absurd (none_some t (sym (ap (option_map (number_at base)) none) ∙ child-of _ t parts.0)))
      (λ p some.
      let up = h.linked.lower i p some in
      absurd (absent p (omega arith) (sym (same_some (number_at base p) t (sym (ap (option_map (number_at base)) some) ∙ child-of _ t parts.0))))))
      (λ k. k))

module _ (limits : ForestLimits) (base : ℕ) (r : Records) (h : AreRecords limits base r) where
  abbrev seen : Transactions
  seen = transactions_of limits base r

  abbrev up : ℕ → Option ℕ
  up = parent_in seen

  laws : ForestLaws up (above up)
  laws = value-laws limits base r h

  -- a live transaction's parent is live
  pub live-parent : (x p : ℕ) → state_in seen x ≡ Some Live → up x ≡ Some p → state_in seen p ≡ Some Live
  live-parent x p live e = by_place base x
      (λ le. absurd (none_live (sym (state-none limits base r x le) ∙ live)))
      (λ i is. by_option ((links_of r).parent i)
      (λ none. absurd (none_some p (sym (ap up is ∙ parent-at limits base r i ∙ ap (option_map (number_at base)) none) ∙ e)))
      (λ q some.
      let same : number_at base q ≡ p = same_some (number_at base q) p (sym (ap up is ∙ parent-at limits base r i ∙ ap (option_map (number_at base)) some) ∙ e) in
      ap (state_in seen) (sym same) ∙ state-at limits base r q ∙ h.linked.live_parent i q (sym (state-at limits base r i) ∙ ap (state_in seen) (sym is) ∙ live) some))

  -- what is above a live transaction is live
  pub live-over : (t x : ℕ) → over_in seen t x ≡ true → state_in seen x ≡ Some Live → state_in seen t ≡ Some Live
  live-over t = climb up (value-forest limits base r h) (λ x. over_in seen t x ≡ true → state_in seen x ≡ Some Live → state_in seen t ≡ Some Live)
      (λ x none over live. ap (state_in seen) (laws.at_top x t none over) ∙ live)
      (λ x p some ih over live. elim (laws.to_parent x p t some over) [
        | inl same ↦ ap (state_in seen) same ∙ live
        | inr more ↦ ih more (live-parent x p live some)
      ])

  -- at or below t, one step down
  pub over-child : (t i j : ℕ) → over_in seen t (number_at base i) ≡ true → (links_of r).parent j ≡ Some i → over_in seen t (number_at base j) ≡ true
  over-child t i j over e =
      let some : up (number_at base j) ≡ Some (number_at base i) = parent-at limits base r j ∙ ap (option_map (number_at base)) e in
      laws.along t (number_at base i) (number_at base j) over (laws.over_parent (number_at base j) (number_at base i) (number_at base j) some (laws.itself (number_at base j)))

  -- a live child has a place, and a sibling's link
  pub child-sibling : (i x : ℕ) → IsLiveChild seen (number_at base i) x → (j : ℕ) × IsSibling (links_of r) (Some i) j
  child-sibling i x is = by_place base x
      (λ le. absurd (none_live (sym (state-none limits base r x le) ∙ is.live)))
      (λ j e. (
        j,
        record {
          parent = by_option ((links_of r).parent j)
              (λ none. absurd (none_some (number_at base i) (sym (ap up e ∙ parent-at limits base r j ∙ ap (option_map (number_at base)) none) ∙ is.child)))
              (λ q some.
              let same : number_at base q ≡ number_at base i = same_some (number_at base q) (number_at base i) (sym (ap up e ∙ parent-at limits base r j ∙ ap (option_map (number_at base)) some) ∙ is.child) in
              some ∙ ap Some (same_place base q i same));
          live = sym (state-at limits base r j) ∙ ap (state_in seen) (sym e) ∙ is.live;
        },
      ))

-- Siblings, as callers see them.
module _ (limits : ForestLimits) (base : ℕ) (r : Records) (h : AreRecords limits base r) where
  abbrev shown : Option ℕ → Option ℕ
  shown = option_map (number_at base)

  same_shown : (a b : Option ℕ) → shown a ≡ shown b → a ≡ b
  same_shown None None e = refl
  same_shown None (Some q) e = absurd (none_some (number_at base q) e)
  same_shown (Some p) None e = absurd (none_some (number_at base p) (sym e))
  same_shown (Some p) (Some q) e = ap Some (same_place base p q (same_some (number_at base p) (number_at base q) e))

  sibling-up : (q : Option ℕ) (j : ℕ) → IsSibling (links_of r) q j → IsLiveUnder (transactions_of limits base r) (shown q) (number_at base j)
  sibling-up q j is = record { child = parent-at limits base r j ∙ ap shown is.parent; live = state-at limits base r j ∙ is.live }

  sibling-down : (q : Option ℕ) (x : ℕ) → IsLiveUnder (transactions_of limits base r) (shown q) x → (j : ℕ) × (x ≡ number_at base j) × IsSibling (links_of r) q j
  sibling-down q x is = by_place base x
      (λ le. absurd (none_live (sym (state-none limits base r x le) ∙ is.live)))
      (λ j e. (
        j,
        e,
        record {
          parent = same_shown ((links_of r).parent j) q (sym (ap (parent_in (transactions_of limits base r)) e ∙ parent-at limits base r j) ∙ is.child);
          live = sym (state-at limits base r j) ∙ ap (state_in (transactions_of limits base r)) (sym e) ∙ is.live;
        },
      ))

  pub youngest-seen : (q : Option ℕ) → IsYoungestChild (transactions_of limits base r) (shown q) (shown ((links_of r).youngest q))
  youngest-seen q = by_option ((links_of r).youngest q)
      (λ none. subst (λ o. IsYoungestChild (transactions_of limits base r) (shown q) (shown o)) (sym none) (λ x is. let j = sibling-down q x is in subst (IsYoungest (links_of r) q) none (h.linked.youngest q) j.0 j.2))
      (λ y some.
      let was = subst (IsYoungest (links_of r) q) some (h.linked.youngest q) in
      subst (λ o. IsYoungestChild (transactions_of limits base r) (shown q) (shown o)) (sym some)
      (sibling-up q y was.0, λ x is. let j = sibling-down q x is in let le = was.1 j.0 j.2 in let e = j.1 in omega arith))

  pub older-seen : (i : ℕ) → (links_of r).state i ≡ Some Live → IsOlderSibling (transactions_of limits base r) (number_at base i) (shown ((links_of r).older i))
  older-seen i live =
      let q = (links_of r).parent i in
      by_option ((links_of r).older i)
      (λ none. subst (λ o. IsOlderSibling (transactions_of limits base r) (number_at base i) (shown o)) (sym none) (λ x is.
      let j = sibling-down q x (record { child = is.child ∙ parent-at limits base r i; live = is.live }) in
      let le = subst (IsOlder (links_of r) q i) none (h.linked.older i live) j.0 j.2 in
      let e = j.1 in
      omega arith))
      (λ y some.
      let was = subst (IsOlder (links_of r) q i) some (h.linked.older i live) in
      let up = sibling-up q y was.0 in
      let below = was.1 in
      subst (λ o. IsOlderSibling (transactions_of limits base r) (number_at base i) (shown o)) (sym some) (
        record { child = up.child ∙ sym (parent-at limits base r i); live = up.live },
        omega arith,
        λ x is.
            let j = sibling-down q x (record { child = is.child ∙ parent-at limits base r i; live = is.live }) in
            let e = j.1 in
            elim (was.2 j.0 j.2) [ inl le ↦ inl (omega arith) | inr ge ↦ inr (omega arith) ],
      ))

  -- each number that the links show fits
  pub numbers-fit : (i : ℕ) → (links_of r).state i ≡ Some Live → number_at base i < 2 ^ 64
  numbers-fit i live = elim (cases_lt i (length r.list.items)) [
    | inl lt ↦ let most = h.numbers i lt in omega arith
    | inr ge ↦ absurd (none_live (sym (h.linked.unbegun i ge) ∙ live))
  ]
