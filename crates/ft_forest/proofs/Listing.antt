-- On the way through a list of all that is live.
use Rattle.std.proofs.Common.{◌≡◌, ◌<◌, ◌≤◌, ◌+◌, ◌-◌, ◌^◌, ◌==◌, ℕ, cond, eqb, eqb-true, eq-eqb, Option, Some, None, List, [], ◌∷◌, ◌++◌, ◌⊎◌, inl, inr, length, take, refl, sym, ap, subst, ◌∙◌, arith, append_assoc, length-append}
use Rattle.std.specs.Prelude.{Contains, slice_get, nat_lt}
use Rattle.std.specs.List.{IsDistinct, list_any}
use Rattle.std.specs.Option.{option_map}
use Rattle.std.specs.List.Sorted.{IsPermutation, IsSorted, IsStrictlyIncreasing}
use Rattle.std.specs.Ordering.{nat_cmp}
use Rattle.std.specs.Cmp.{nat_eq_equiv}
use Rattle.std.proofs.Math.ListN.{get_or}
use Rattle.std.proofs.Math.Seq.{take-length}
use Rattle.std.proofs.lemmas.Bool.{false≢true, false_from_ne_true, ltb-true}
use Rattle.std.proofs.lemmas.List.{append-nil, take-append-le, take_more, length-take-le, get_or-take}
use Rattle.std.proofs.lemmas.List.Elements.{Contains-append_left, Contains-append_right, Contains-append_cases, Contains-push, Contains-push_cases}
use Rattle.std.proofs.lemmas.List.Sorted.{IsNonDecreasingBy-from_sort}
use Rattle.std.proofs.lemmas.Map.Keys.{IsDistinct-push, IsDistinct-IsPermutation, IsStrictlyIncreasing-from_distinct, apart_from_distinct}
use Rattle.std.proofs.lemmas.Map.Steps.{length-le_from_distinct_below}
use Rattle.std.proofs.lemmas.Map.Views.{Contains-from_any}
use Rattle.ft_laws.proofs.Tests.{by_test}
use Rattle.ft_history.specs.Forest.{IsForest}
use Rattle.ft_history.proofs.Words.{by_number, same_some, none_some}
use Rattle.ft_history.proofs.Forest.{climb}
use Rattle.ft_forest.specs.declared.limits.ForestLimits.{ForestLimits}
use Rattle.ft_forest.specs.declared.state.State.TheVariants.{Live}
use Rattle.ft_forest.specs.declared.records.Records.{Records}
use Rattle.ft_forest.specs.Transactions.{Transactions, state_of, parent_in, state_in, last_in, IsLiveUnder, IsYoungestChild, IsOlderSibling}
use Rattle.ft_forest.specs.Places.{number_of, HasChildrenBehind}
use Rattle.ft_forest.specs.Records.{AreRecords, links_of, number_at, transactions_of}
use Rattle.ft_forest.proofs.Seeing.{value-forest, live-parent, state-at, youngest-seen, older-seen, numbers-fit}
use Rattle.ft_forest.proofs.Changing.{live-begun}
use Rattle.ft_forest.proofs.Aborting.{begun-last, begun-after}

-- the numbers before this are still to come
abbrev pub after_next : Option ℕ → ℕ
after_next None = 0
after_next (Some n) = n + 1

-- behind the old list stand the children that are younger than the next one
pub record AreChildrenTo (m : Transactions) (parent next : Option ℕ) (old now : List ℕ) : Type 0 where
  pub children : List ℕ
  pub behind : now ≡ old ++ children
  pub sound : (x : ℕ) → Contains children x → IsLiveUnder m parent x × (after_next next ≤ x)
  pub all : (x : ℕ) → IsLiveUnder m parent x → Contains children x ⊎ (x < after_next next)
  pub once : IsDistinct ◌==◌ now
  pub follows : (c : ℕ) → next ≡ Some c → IsLiveUnder m parent c

none_in : (x : ℕ) → Contains [] x → ⊥
none_in x i = let lt = i.1 in absurd (omega arith)

-- no child comes behind the youngest
before-youngest : (m : Transactions) (parent next : Option ℕ) → IsYoungestChild m parent next → (x : ℕ) → IsLiveUnder m parent x → x < after_next next
before-youngest m parent None none x is = absurd (none x is)
before-youngest m parent (Some y) youngest x is = let le = youngest.1 x is in omega arith

-- at the youngest child none is listed
pub first-children : (m : Transactions) (parent next : Option ℕ) (xs : List ℕ) → IsYoungestChild m parent next → IsDistinct ◌==◌ xs → AreChildrenTo m parent next xs xs
first-children m parent next xs youngest once = record {
  children = [];
  behind = sym (append-nil xs);
  sound = λ x i. absurd (none_in x i);
  all = λ x is. inr (before-youngest m parent next youngest x is);
  once = once;
  follows = λ c is. (subst (IsYoungestChild m parent) is youngest).0;
}

-- no sibling comes between the next older one and a child
before-older : (m : Transactions) (child : ℕ) (next : Option ℕ) → IsOlderSibling m child next → (x : ℕ) → IsLiveUnder m (parent_in m child) x → x < child → x < after_next next
before-older m child None older x is lt = let ge = older x is in absurd (omega arith)
before-older m child (Some y) older x is lt = elim (older.2 x is) [ inl le ↦ omega arith | inr ge ↦ absurd (omega arith) ]

-- the next older one has a smaller number
after-older : (m : Transactions) (child : ℕ) (next : Option ℕ) → IsOlderSibling m child next → after_next next ≤ child
after-older m child None older = omega arith
after-older m child (Some y) older = let lt = older.1 in omega arith

-- with the next older one the walk is nearer to its end
pub older-nearer : (m : Transactions) (i : ℕ) (o : Option ℕ) → IsOlderSibling m (number_at m.base i) (number_of m o) → after_next o < i + 1
older-nearer m i None older = omega arith
older-nearer m i (Some y) older = let lt = older.1 in omega arith

module _ (m : Transactions) (parent : Option ℕ) (child : ℕ) (old xs : List ℕ) (h : AreChildrenTo m parent (Some child) old xs) where
  own : IsLiveUnder m parent child
  own = h.follows child refl

  not_yet : ((x : ℕ) → IsLiveUnder m parent x → Contains old x → ⊥) → Contains xs child → ⊥
  not_yet fresh i = elim (Contains-append_cases old h.children child (subst (λ zs. Contains zs child) h.behind i)) [
    | inl j ↦ fresh child own j
    | inr j ↦ let le = (h.sound child j).1 in absurd (omega arith)
  ]

  -- the child is listed, and the next older one follows
  pub next-children : ((x : ℕ) → IsLiveUnder m parent x → Contains old x → ⊥) → (next : Option ℕ) (ys : List ℕ) → ys ≡ xs ++ child ∷ [] → IsOlderSibling m child next → AreChildrenTo m parent next old ys
  next-children fresh next ys pushed older =
      let below = after-older m child next older in
      record {
        children = h.children ++ child ∷ [];
        behind = pushed ∙ ap (λ zs. zs ++ child ∷ []) h.behind ∙ append_assoc old h.children (child ∷ []);
        sound = λ x i. elim (Contains-push_cases h.children child x i) [
          | inl j ↦ let was = h.sound x j in let le = was.1 in (was.0, omega arith)
          | inr same ↦ (subst (IsLiveUnder m parent) same own, subst (λ z. after_next next ≤ z) same below)
        ];
        all = λ x is. elim (h.all x is) [
          | inl j ↦ inl (Contains-append_left h.children (child ∷ []) x j)
          | inr lt ↦ by_number x child
              (λ e. inl (subst (Contains (h.children ++ child ∷ [])) (sym e) (Contains-push h.children child)))
              (λ ne. inr (before-older m child next older x (record { child = is.child ∙ sym own.child; live = is.live }) (omega arith)))
        ];
        once = subst (IsDistinct ◌==◌) (sym pushed) (IsDistinct-push nat_eq_equiv xs child h.once (false_from_ne_true (list_any (eqb child) xs) (λ any. not_yet fresh (Contains-from_any eqb-true child xs any))));
        follows = λ c is. let next_is = (subst (IsOlderSibling m child) is older).0 in record { child = next_is.child ∙ own.child; live = next_is.live };
      }

-- once none follows, all children are listed
pub all-children : (m : Transactions) (parent : Option ℕ) (old xs : List ℕ) → AreChildrenTo m parent None old xs → HasChildrenBehind m parent old xs
all-children m parent old xs h = record {
  children = h.children;
  behind = h.behind;
  sound = λ x i. (h.sound x i).0;
  all = λ x is. elim (h.all x is) [ inl j ↦ j | inr lt ↦ absurd (omega arith) ];
  once = h.once;
}

-- What is live is listed, but for what stands below those from a place on: the children of those
-- before it are, and of them alone.
pub record AreListedTo (m : Transactions) (i : ℕ) (numbers : List ℕ) : Type 0 where
  pub within : i ≤ length numbers
  pub live : (x : ℕ) → Contains numbers x → state_in m x ≡ Some Live
  pub once : IsDistinct ◌==◌ numbers
  pub roots : (x : ℕ) → IsLiveUnder m None x → Contains numbers x
  pub children : (p x : ℕ) → Contains (take i numbers) p → IsLiveUnder m (Some p) x → Contains numbers x
  pub parents : (p x : ℕ) → Contains numbers x → parent_in m x ≡ Some p → Contains (take i numbers) p

-- at first what is live at the top level is listed
pub roots-listed : (m : Transactions) (xs : List ℕ) → HasChildrenBehind m None [] xs → AreListedTo m 0 xs
roots-listed m xs h = record {
  within = omega arith;
  live = λ x i. (h.sound x (subst (λ zs. Contains zs x) h.behind i)).live;
  once = h.once;
  roots = λ x is. subst (λ zs. Contains zs x) (sym h.behind) (h.all x is);
  children = λ p x i is. absurd (none_in p i);
  parents = λ p x i up. absurd (none_some p (sym (h.sound x (subst (λ zs. Contains zs x) h.behind i)).child ∙ up));
}

module _ (m : Transactions) (i : ℕ) (xs : List ℕ) (h : AreListedTo m i xs) where
  -- as many as have begun are listed at most
  pub few-listed : length xs ≤ last_in m + 1
  few-listed = length-le_from_distinct_below xs (last_in m + 1) h.once (λ q any. let le = begun-last m q Live (h.live q (Contains-from_any eqb-true q xs any)) in omega arith)

  module _ (lt : i < length xs) (p : ℕ) (is : p ≡ get_or xs i p) where
    -- it stands at no place before
    once-only : Contains (take i xs) p → ⊥
    once-only c =
        let most = length-take-le i xs h.within in
        let there = c.1 in
        let before : c.0 < i = omega arith in
        let alike : get_or xs c.0 p ≡ get_or xs i p = sym (get_or-take i xs c.0 p before) ∙ c.2 ∙ is in
        false≢true (sym (apart_from_distinct ◌==◌ xs c.0 i p h.once before lt) ∙ eq-eqb (get_or xs c.0 p) (get_or xs i p) alike)

    -- its children are not listed
    pub fresh-children : (x : ℕ) → IsLiveUnder m (Some p) x → Contains xs x → ⊥
    fresh-children x under c = once-only (h.parents p x c under.child)

    -- it was begun behind the base
    pub listed-after : m.base < p
    listed-after = begun-after m p (h.live p (i, lt, sym is))

    module _ (ys : List ℕ) (more : HasChildrenBehind m (Some p) xs ys) where
      taken : take (i + 1) ys ≡ take i xs ++ p ∷ []
      taken = ap (take (i + 1)) more.behind ∙ take-append-le (i + 1) xs more.children (omega arith) ∙ take_more xs i p lt ∙ ap (λ d. take i xs ++ d ∷ []) (sym is)

      kept : (x : ℕ) → Contains xs x → Contains ys x
      kept x c = subst (λ zs. Contains zs x) (sym more.behind) (Contains-append_left xs more.children x c)

      either : (x : ℕ) → Contains ys x → Contains xs x ⊎ Contains more.children x
      either x c = Contains-append_cases xs more.children x (subst (λ zs. Contains zs x) more.behind c)

      -- with its children the list goes on to the next one
      pub next-listed : AreListedTo m (i + 1) ys
      next-listed =
          let longer = ap length more.behind ∙ length-append xs more.children in
          record {
            within = omega arith;
            live = λ x c. elim (either x c) [ inl j ↦ h.live x j | inr j ↦ (more.sound x j).live ];
            once = more.once;
            roots = λ x under. kept x (h.roots x under);
            children = λ q x c under. elim (Contains-push_cases (take i xs) p q (subst (λ zs. Contains zs q) taken c)) [
              | inl j ↦ kept x (h.children q x j under)
              | inr same ↦ subst (λ zs. Contains zs x) (sym more.behind) (Contains-append_right xs more.children x (more.all x (subst (λ o. IsLiveUnder m (Some o) x) (sym same) under)))
            ];
            parents = λ q x c up. subst (λ zs. Contains zs q) (sym taken) (elim (either x c) [
              | inl j ↦ Contains-append_left (take i xs) (p ∷ []) q (h.parents q x j up)
              | inr j ↦ subst (Contains (take i xs ++ p ∷ [])) (same_some p q (sym (more.sound x j).child ∙ up)) (Contains-push (take i xs) p)
            ]);
          }

  -- once all have their children listed, all is that is live
  pub all-listed : IsForest (parent_in m) → ((x p : ℕ) → parent_in m x ≡ Some p → state_in m x ≡ Some Live → state_in m p ≡ Some Live) → length xs ≤ i → (x : ℕ) → state_in m x ≡ Some Live → Contains xs x
  all-listed forest up done =
      let within = h.within in
      let end : i ≡ length xs = omega arith in
      let whole : take i xs ≡ xs = ap (λ n. take n xs) end ∙ take-length xs in
      climb (parent_in m) forest (λ x. state_in m x ≡ Some Live → Contains xs x)
      (λ x none live. h.roots x (record { child = none; live = live }))
      (λ x p some ih live. h.children p x (subst (λ zs. Contains zs p) (sym whole) (ih (up x p some live))) (record { child = some; live = live }))

-- nothing is listed twice at first
pub none_twice : IsDistinct ◌==◌ []
unfolding IsDistinct
none_twice = tt

-- numbers that differ rise once they are sorted
pub sorted-rising : (found sorted : List ℕ) → IsDistinct ◌==◌ found → IsPermutation found sorted → IsSorted nat_cmp sorted → IsStrictlyIncreasing sorted
sorted-rising found sorted once moved rises = IsStrictlyIncreasing-from_distinct sorted (IsNonDecreasingBy-from_sort (λ x. x) sorted rises) (IsDistinct-IsPermutation ◌==◌ nat_eq_equiv.symm found sorted moved once)

-- What the records tell of the value m that they are seen as.
module _ (limits : ForestLimits) (base : ℕ) (r : Records) (h : AreRecords limits base r) (m : Transactions) (seen : transactions_of limits base r ≡ m) where
  -- a parent was begun before its child
  pub forest-seen : IsForest (parent_in m)
  forest-seen = subst (λ n. IsForest (parent_in n)) seen (value-forest limits base r h)

  -- and lives as long
  pub parents-live : (x p : ℕ) → parent_in m x ≡ Some p → state_in m x ≡ Some Live → state_in m p ≡ Some Live
  parents-live = subst (λ n. (x p : ℕ) → parent_in n x ≡ Some p → state_in n x ≡ Some Live → state_in n p ≡ Some Live) seen (λ x p up live. live-parent limits base r h x p live up)

  -- the youngest child of what stands at a place
  pub youngest-of : (p : Option ℕ) → IsYoungestChild m (number_of m p) (number_of m ((links_of r).youngest p))
  youngest-of p = subst (λ n. IsYoungestChild n (number_of n p) (number_of n ((links_of r).youngest p))) seen (youngest-seen limits base r h p)

  -- the number that is pushed is that of a place
  pub pushed-seen : (i : ℕ) (xs ys : List ℕ) → ys ≡ xs ++ number_at base i ∷ [] → ys ≡ xs ++ number_at m.base i ∷ []
  pushed-seen i xs ys is = is ∙ ap (λ n. xs ++ number_at n.base i ∷ []) seen

  -- what stands at a place, and is seen to be live
  module _ (i : ℕ) (live : state_in m (number_at m.base i) ≡ Some Live) where
    -- it is live
    live-at : (links_of r).state i ≡ Some Live
    live-at = sym (state-at limits base r i) ∙ ap (λ n. state_in n (number_at n.base i)) seen ∙ live

    -- and stands in the records
    pub begun-at : i < length r.list.items
    begun-at = live-begun limits base r h i live-at

    -- its number fits
    pub number-fits : number_at m.base i < 2 ^ 64
    number-fits = subst (λ n. number_at n.base i < 2 ^ 64) seen (numbers-fit limits base r h i live-at)

    -- and its record tells its next older sibling
    pub older-of : (o : Option ℕ) → o ≡ (links_of r).older i → IsOlderSibling m (number_at m.base i) (number_of m o)
    older-of o is =
        subst (λ n. IsOlderSibling n (number_at n.base i) (number_of n o)) seen
        (subst (λ o. IsOlderSibling (transactions_of limits base r) (number_at base i) (option_map (number_at base) o)) (sym is) (older-seen limits base r h i live-at))
