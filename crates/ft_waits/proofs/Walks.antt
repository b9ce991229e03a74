-- The walk after each of its steps.
use Rattle.std.proofs.Common.{◌≡◌, ◌≢◌, ◌+◌, ◌^◌, ◌<◌, ◌≤◌, ◌⊎◌, ℕ, true, Some, None, List, [], ◌∷◌, ◌++◌, length, All, Contains, is_some, nat_eq, nat_cmp, inl, inr, arith, refl, sym, ap, subst, ◌∙◌}
use Rattle.std.specs.List.{IsDistinct}
use Rattle.std.specs.FinMap as finite
use Rattle.std.proofs.lemmas.Bool.{cases_eq}
use Rattle.std.proofs.lemmas.List.{map-append, length_push}
use Rattle.std.proofs.lemmas.List.Elements.{All-nil, All-weaker, All-push, All-pop, All-contains, All-contains_itself, Contains-append_left, Contains-push, Contains-push_cases}
use Rattle.ft_waits.specs.declared.edge.Edge.{Edge}
use Rattle.ft_waits.specs.declared.walk.Step.{Step}
use Rattle.ft_waits.specs.Waits.{HasEdge, IsNamed}
use Rattle.ft_waits.specs.Walk.{Ranks, Txns, LeadTo, ahead_of, RanksBelow, IsReached, IsStep, IsOnPath, AreRanked, IsWalk, path_txns}
use Rattle.ft_waits.proofs.Maps.{put-same, put-other, gone-same, gone-other, new_key-differs, len-put_new, len-gone}
use Rattle.ft_waits.proofs.Paths.{distinct-front, distinct-push, last-differs}

pub txns-push : (steps : List Step) (step : Step) → path_txns (steps ++ step ∷ []) ≡ path_txns steps ++ step.txn ∷ []
txns-push steps step = map-append (λ (s : Step). s.txn) steps (step ∷ [])

-- what holds of each holds of each but the last
All-push-front : {X : Type 0} (P : X → Type 0) (xs : List X) (x : X) → All P (xs ++ x ∷ []) → All P xs
All-push-front P xs x all = (All-pop P (xs ++ x ∷ []) xs (Some x) refl all).0

-- a transaction that is not in a set is not in what is left of it
pub gone-none : (unseen : Txns) (k t : ℕ) → finite.get unseen t ≡ None → finite.get (finite.remove unseen k) t ≡ None
gone-none unseen k t none = elim (cases_eq t k) [
  | inl same ↦ subst (λ n. finite.get (finite.remove unseen k) n ≡ None) (sym same) (gone-same unseen k)
  | inr other ↦ gone-other unseen k t other ∙ none
]

gone-some : (unseen : Txns) (k t : ℕ) → finite.contains_key (finite.remove unseen k) t ≡ true → finite.contains_key unseen t ≡ true
gone-some unseen k t there = elim (cases_eq t k) [
  | inl same ↦ let none = ap (λ o. is_some o) (gone-none-at unseen k t same) in cc
  | inr other ↦ ap (λ o. is_some o) (sym (gone-other unseen k t other)) ∙ there
] where
  gone-none-at : (unseen : Txns) (k t : ℕ) → t ≡ k → finite.get (finite.remove unseen k) t ≡ None
  gone-none-at unseen k t same = subst (λ n. finite.get (finite.remove unseen k) n ≡ None) (sym same) (gone-same unseen k)

-- at first all that is named is unseen
pub walk-fresh : (edges : List Edge) (unseen : Txns) (ranks : Ranks) → ((txn : ℕ) → (finite.contains_key unseen txn ≡ true → IsNamed edges txn) × (IsNamed edges txn → finite.contains_key unseen txn ≡ true)) → ranks ≡ finite.empty → finite.len unseen < 2 ^ 64 → IsWalk edges unseen ranks []
unfolding IsDistinct
walk-fresh edges unseen ranks named none few =
    let nowhere : (txn : ℕ) → finite.get ranks txn ≡ None = λ txn. ap (λ (m : Ranks). finite.get m txn) none ∙ finite.get-empty nat_cmp txn in
    let unranked : (txn rank : ℕ) → finite.get ranks txn ≡ Some rank → ⊥ = λ txn rank some. (let missing = nowhere txn in cc) in
    let short : finite.len ranks ≡ 0 = ap (λ (m : Ranks). finite.len m) none ∙ finite.len-empty nat_cmp ℕ in
    record {
      ranked = record {
        falls = λ from to high some h. absurd (unranked from high some);
        reached = λ txn rank some. absurd (unranked txn rank some);
        small = λ txn rank some. absurd (unranked txn rank some);
        named = λ txn rank some. absurd (unranked txn rank some);
        apart = λ txn there. (nowhere txn, (named txn).0 there);
      };
      steps_are = All-nil (IsStep edges ranks);
      on_path = All-nil (IsOnPath edges unseen ranks);
      distinct = tt;
      all = λ txn h. inl ((named txn).1 h);
      room = omega arith;
    }

-- Where a walk stands, one transaction after the other.
module _ (edges : List Edge) (unseen : Txns) (ranks : Ranks) (steps : List Step) where
  -- one that was unseen is entered
  module _ (new : Step) (walk : IsWalk edges unseen ranks steps) (was_unseen : finite.get unseen new.txn ≡ Some tt) (out : (to : ℕ) → (LeadTo (ahead_of edges new) to → HasEdge edges new.txn to) × (HasEdge edges new.txn to → LeadTo (ahead_of edges new) to))
      (lowest : new.rank ≡ 0) (within : new.end ≤ length edges) where
    left : Txns
    left = finite.remove unseen new.txn

    there : finite.contains_key unseen new.txn ≡ true
    there = ap (λ o. is_some o) was_unseen

    ranked-left : AreRanked edges (finite.remove unseen new.txn) ranks
    ranked-left = record {
      falls = walk.ranked.falls;
      reached = walk.ranked.reached;
      small = walk.ranked.small;
      named = walk.ranked.named;
      apart = λ txn h. walk.ranked.apart txn (gone-some unseen new.txn txn h);
    }

    step-new : IsStep edges ranks new
    step-new = record {
      within = within;
      out = λ to h. (out to).0 h;
      passed = λ to h. inl ((out to).1 h);
      reached = inl lowest;
      small = omega arith;
    }

    on_path-new : IsOnPath edges (finite.remove unseen new.txn) ranks new.txn
    on_path-new = record {
      named = (walk.ranked.apart new.txn there).1;
      unranked = (walk.ranked.apart new.txn there).0;
      seen = gone-same unseen new.txn;
    }

    on_path-left : (txn : ℕ) → IsOnPath edges unseen ranks txn → IsOnPath edges (finite.remove unseen new.txn) ranks txn
    on_path-left txn h = record { named = h.named; unranked = h.unranked; seen = gone-none unseen new.txn txn h.seen }

    differs-new : (txn : ℕ) → Contains (path_txns steps) txn → new.txn ≢ txn
    differs-new txn among same =
        let seen = (All-contains (IsOnPath edges unseen ranks) (path_txns steps) txn walk.on_path among).seen in
        let here = ap (λ n. finite.get unseen n) same in
        cc

    all-left : (txn : ℕ) → (finite.contains_key unseen txn ≡ true) ⊎ (finite.contains_key ranks txn ≡ true) ⊎ Contains (path_txns steps) txn
        → (finite.contains_key (finite.remove unseen new.txn) txn ≡ true) ⊎ (finite.contains_key ranks txn ≡ true) ⊎ Contains (path_txns steps ++ new.txn ∷ []) txn
    all-left txn (inl h) = elim (cases_eq txn new.txn) [
      | inl same ↦ inr (inr (subst (λ n. Contains (path_txns steps ++ new.txn ∷ []) n) (sym same) (Contains-push (path_txns steps) new.txn)))
      | inr other ↦ inl (ap (λ o. is_some o) (gone-other unseen new.txn txn other) ∙ h)
    ]
    all-left txn (inr (inl h)) = inr (inl h)
    all-left txn (inr (inr h)) = inr (inr (Contains-append_left (path_txns steps) (new.txn ∷ []) txn h))

    pub walk-enter : IsWalk edges (finite.remove unseen new.txn) ranks (steps ++ new ∷ [])
    walk-enter = record {
      ranked = ranked-left;
      steps_are = All-push (IsStep edges ranks) steps new walk.steps_are step-new;
      on_path = subst (λ txns. All (IsOnPath edges (finite.remove unseen new.txn) ranks) txns) (sym (txns-push steps new))
          (All-push (IsOnPath edges (finite.remove unseen new.txn) ranks) (path_txns steps) new.txn (All-weaker (IsOnPath edges unseen ranks) (IsOnPath edges (finite.remove unseen new.txn) ranks) on_path-left (path_txns steps) walk.on_path) on_path-new);
      distinct = subst (λ txns. IsDistinct nat_eq txns) (sym (txns-push steps new)) (distinct-push (path_txns steps) new.txn walk.distinct differs-new);
      all = λ txn named. subst (λ txns. (finite.contains_key (finite.remove unseen new.txn) txn ≡ true) ⊎ (finite.contains_key ranks txn ≡ true) ⊎ Contains txns txn) (sym (txns-push steps new)) (all-left txn (walk.all txn named));
      room = let fewer = len-gone unseen new.txn tt was_unseen in let longer = length_push steps new in let old = walk.room in omega arith;
    }

  -- the last one on the path gets its rank
  module _ (top : Step) (walk : IsWalk edges unseen ranks (steps ++ top ∷ [])) (done : ahead_of edges top ≡ []) where
    txns_are : path_txns (steps ++ top ∷ []) ≡ path_txns steps ++ top.txn ∷ []
    txns_are = txns-push steps top

    on_path : All (IsOnPath edges unseen ranks) (path_txns steps ++ top.txn ∷ [])
    on_path = subst (λ txns. All (IsOnPath edges unseen ranks) txns) txns_are walk.on_path

    top-on_path : IsOnPath edges unseen ranks top.txn
    top-on_path = All-contains (IsOnPath edges unseen ranks) (path_txns steps ++ top.txn ∷ []) top.txn on_path (Contains-push (path_txns steps) top.txn)

    top-step : IsStep edges ranks top
    top-step = All-contains (IsStep edges ranks) (steps ++ top ∷ []) top walk.steps_are (Contains-push steps top)

    keeps : (txn rank : ℕ) → finite.get ranks txn ≡ Some rank → finite.get (finite.insert ranks top.txn top.rank) txn ≡ Some rank
    keeps txn rank some = put-other ranks top.txn top.rank txn (new_key-differs ranks top.txn txn rank top-on_path.unranked some) ∙ some

    pub rank-keeps : (txn rank : ℕ) → finite.get ranks txn ≡ Some rank → finite.get (finite.insert ranks top.txn top.rank) txn ≡ Some rank
    rank-keeps = keeps

    below-kept : (txn bound : ℕ) → RanksBelow ranks txn bound → RanksBelow (finite.insert ranks top.txn top.rank) txn bound
    below-kept txn bound (rank, some, lt) = (rank, keeps txn rank some, lt)

    reached-kept : (txn rank : ℕ) → IsReached edges ranks txn rank → IsReached edges (finite.insert ranks top.txn top.rank) txn rank
    reached-kept txn rank (inl none) = inl none
    reached-kept txn rank (inr (to, low, h, some, is)) = inr (to, low, h, keeps to low some, is)

    longer : finite.len (finite.insert ranks top.txn top.rank) ≡ finite.len ranks + 1
    longer = len-put_new ranks top.txn top.rank top-on_path.unranked

    step-kept : (step : Step) → IsStep edges ranks step → IsStep edges (finite.insert ranks top.txn top.rank) step
    step-kept step h = record {
      within = h.within;
      out = h.out;
      passed = λ to e. passed-kept to (h.passed to e);
      reached = reached-kept step.txn step.rank h.reached;
      small = let more = longer in let old = h.small in omega arith;
    } where
      passed-kept : (to : ℕ) → LeadTo (ahead_of edges step) to ⊎ RanksBelow ranks to step.rank → LeadTo (ahead_of edges step) to ⊎ RanksBelow (finite.insert ranks top.txn top.rank) to step.rank
      passed-kept to (inl leads) = inl leads
      passed-kept to (inr below) = inr (below-kept to step.rank below)

    top-falls : (to : ℕ) → HasEdge edges top.txn to → RanksBelow ranks to top.rank
    top-falls to h = no_more to (subst (λ (es : List Edge). LeadTo es to ⊎ RanksBelow ranks to top.rank) done (top-step.passed to h)) where
      no_more : (to : ℕ) → LeadTo [] to ⊎ RanksBelow ranks to top.rank → RanksBelow ranks to top.rank
      no_more to (inl none) = absurd none
      no_more to (inr below) = below

    -- what holds of each that was ranked, and of the last one, holds of each that is ranked now
    each_ranked : (P : ℕ → ℕ → Type 0) → ((txn rank : ℕ) → finite.get ranks txn ≡ Some rank → P txn rank) → P top.txn top.rank → (txn rank : ℕ) → finite.get (finite.insert ranks top.txn top.rank) txn ≡ Some rank → P txn rank
    each_ranked P old new txn rank some = elim (cases_eq txn top.txn) [
      | inl same ↦
          let here : Some rank ≡ Some top.rank = sym some ∙ ap (λ n. finite.get (finite.insert ranks top.txn top.rank) n) same ∙ put-same ranks top.txn top.rank in
          let is : rank ≡ top.rank = cc in
          subst (λ n. P n rank) (sym same) (subst (λ n. P top.txn n) (sym is) new)
      | inr other ↦ old txn rank (sym (put-other ranks top.txn top.rank txn other) ∙ some)
    ]

    ranked-more : AreRanked edges unseen (finite.insert ranks top.txn top.rank)
    ranked-more = record {
      falls = λ from to high some h. each_ranked (λ from high. HasEdge edges from to → RanksBelow (finite.insert ranks top.txn top.rank) to high) (λ from high some h. below-kept to high (walk.ranked.falls from to high some h))
          (λ h. below-kept to top.rank (top-falls to h)) from high some h;
      reached = each_ranked (λ txn rank. IsReached edges (finite.insert ranks top.txn top.rank) txn rank) (λ txn rank some. reached-kept txn rank (walk.ranked.reached txn rank some)) (reached-kept top.txn top.rank top-step.reached);
      small = each_ranked (λ txn rank. rank < finite.len (finite.insert ranks top.txn top.rank)) (λ txn rank some. let old = walk.ranked.small txn rank some in let more = longer in omega arith)
          (let old = top-step.small in let more = longer in omega arith);
      named = each_ranked (λ txn rank. IsNamed edges txn) walk.ranked.named top-on_path.named;
      apart = λ txn there. (put-other ranks top.txn top.rank txn (unlike_seen txn there) ∙ (walk.ranked.apart txn there).0, (walk.ranked.apart txn there).1);
    } where
      unlike_seen : (txn : ℕ) → finite.contains_key unseen txn ≡ true → txn ≢ top.txn
      unlike_seen txn there same =
          let seen = ap (λ o. is_some o) top-on_path.seen in
          let here = ap (λ n. finite.contains_key unseen n) same in
          cc

    distinct : IsDistinct nat_eq (path_txns steps ++ top.txn ∷ [])
    distinct = subst (λ txns. IsDistinct nat_eq txns) txns_are walk.distinct

    on_path-more : (txn : ℕ) → Contains (path_txns steps) txn → IsOnPath edges unseen (finite.insert ranks top.txn top.rank) txn
    on_path-more txn among =
        let old = All-contains (IsOnPath edges unseen ranks) (path_txns steps ++ top.txn ∷ []) txn on_path (Contains-append_left (path_txns steps) (top.txn ∷ []) txn among) in
        record { named = old.named; unranked = put-other ranks top.txn top.rank txn (last-differs (path_txns steps) top.txn distinct txn among) ∙ old.unranked; seen = old.seen }

    all-more : (txn : ℕ) → (finite.contains_key unseen txn ≡ true) ⊎ (finite.contains_key ranks txn ≡ true) ⊎ Contains (path_txns steps ++ top.txn ∷ []) txn
        → (finite.contains_key unseen txn ≡ true) ⊎ (finite.contains_key (finite.insert ranks top.txn top.rank) txn ≡ true) ⊎ Contains (path_txns steps) txn
    all-more txn (inl h) = inl h
    all-more txn (inr (inl h)) = elim (cases_eq txn top.txn) [
      | inl same ↦ inr (inl (ap (λ n. finite.contains_key (finite.insert ranks top.txn top.rank) n) same ∙ ap (λ o. is_some o) (put-same ranks top.txn top.rank)))
      | inr other ↦ inr (inl (ap (λ o. is_some o) (put-other ranks top.txn top.rank txn other) ∙ h))
    ]
    all-more txn (inr (inr h)) = elim (Contains-push_cases (path_txns steps) top.txn txn h) [
      | inl among ↦ inr (inr among)
      | inr same ↦ inr (inl (ap (λ n. finite.contains_key (finite.insert ranks top.txn top.rank) n) (sym same) ∙ ap (λ o. is_some o) (put-same ranks top.txn top.rank)))
    ]

    pub walk-rank : IsWalk edges unseen (finite.insert ranks top.txn top.rank) steps
    walk-rank = record {
      ranked = ranked-more;
      steps_are = All-weaker (IsStep edges ranks) (IsStep edges (finite.insert ranks top.txn top.rank)) step-kept steps (All-push-front (IsStep edges ranks) steps top walk.steps_are);
      on_path = All-weaker (Contains (path_txns steps)) (IsOnPath edges unseen (finite.insert ranks top.txn top.rank)) on_path-more (path_txns steps) (All-contains_itself (path_txns steps));
      distinct = distinct-front (path_txns steps) (top.txn ∷ []) distinct;
      all = λ txn named. all-more txn (subst (λ txns. (finite.contains_key unseen txn ≡ true) ⊎ (finite.contains_key ranks txn ≡ true) ⊎ Contains txns txn) txns_are (walk.all txn named));
      room = let more = longer in let fewer = length_push steps top in let old = walk.room in omega arith;
    }

  -- ranks are small numbers
  pub small-rank : (top : Step) → IsWalk edges unseen ranks (steps ++ top ∷ []) → (txn rank : ℕ) → finite.get ranks txn ≡ Some rank → (rank < finite.len ranks) × (rank + 1 < 2 ^ 64)
  small-rank top walk txn rank some = let below = walk.ranked.small txn rank some in let all = walk.room in (below, omega arith)

  pub last-step : (top : Step) → IsWalk edges unseen ranks (steps ++ top ∷ []) → IsStep edges ranks top
  last-step top walk = All-contains (IsStep edges ranks) (steps ++ top ∷ []) top walk.steps_are (Contains-push steps top)

  -- the last one on the path has passed some edges
  pub walk-pass : (old new : Step) → new.txn ≡ old.txn → (IsStep edges ranks old → IsStep edges ranks new) → IsWalk edges unseen ranks (steps ++ old ∷ []) → IsWalk edges unseen ranks (steps ++ new ∷ [])
  walk-pass old new same passes walk =
      let txns_same : path_txns (steps ++ old ∷ []) ≡ path_txns (steps ++ new ∷ []) = txns-push steps old ∙ ap (λ txn. path_txns steps ++ txn ∷ []) (sym same) ∙ sym (txns-push steps new) in
      let old_step = All-contains (IsStep edges ranks) (steps ++ old ∷ []) old walk.steps_are (Contains-push steps old) in
      record {
        ranked = walk.ranked;
        steps_are = All-push (IsStep edges ranks) steps new (All-push-front (IsStep edges ranks) steps old walk.steps_are) (passes old_step);
        on_path = subst (λ txns. All (IsOnPath edges unseen ranks) txns) txns_same walk.on_path;
        distinct = subst (λ txns. IsDistinct nat_eq txns) txns_same walk.distinct;
        all = λ txn named. subst (λ txns. (finite.contains_key unseen txn ≡ true) ⊎ (finite.contains_key ranks txn ≡ true) ⊎ Contains txns txn) txns_same (walk.all txn named);
        room = let one = length_push steps old in let other = length_push steps new in let all = walk.room in omega arith;
      }
