-- What a walk that has ended tells, and that the order of the edges does not matter.
use Rattle.std.proofs.Common.{◌≡◌, ◌<◌, ◌≤◌, ◌⊎◌, ℕ, zero, suc, true, List, [], ◌∷◌, ◌++◌, Some, None, length, get_or, take, drop, All, Any, Contains, is_some, nat_eq, Option, Result, Ok, Err, IfOk, drop-cons, inl, inr, arith, refl, sym, ap, subst, ◌∙◌}
use Rattle.std.specs.List.{IsDistinct}
use Rattle.std.specs.List.Sorted.{IsPermutation}
use Rattle.std.specs.FinMap as finite
use Rattle.std.proofs.lemmas.List.{take-append-drop}
use Rattle.std.proofs.lemmas.List.Elements.{All-tail}
use Rattle.std.proofs.lemmas.List.Sorted.{All-permutation, Contains-permutation, IsPermutation-sym}
use Rattle.ft_base.specs.declared.memory.Memory.{Memory}
use Rattle.ft_waits.specs.declared.edge.Edge.{Edge}
use Rattle.ft_waits.specs.declared.verdict.Verdict.{Verdict}
use Rattle.ft_waits.specs.declared.verdict.Verdict.TheVariants.{Cycle, Ranked}
use Rattle.ft_waits.specs.Waits.{HasEdge, IsNamed, first_or, IsPath, IsCycle, BeginsWithLeast, HasNoCycle, IsRank, FallAlong, IfCycle, IfRanked, txns_of, IsToldCycle, AreToldRanks, IsVerdict}
use Rattle.ft_waits.specs.Walk.{Ranks, Txns, RanksBelow, IsReached, IsWalk}
use Rattle.ft_waits.proofs.Paths.{cycle-turned, distinct-turned}
use Rattle.ft_waits.proofs.Listed.{entries-rising, get-listed, listed-get, txn-listed, listed-txn}

-- a cycle that is turned

begins : (least : ℕ) (members : List ℕ) → All (λ txn. least ≤ txn) members → (0 < length members → get_or members 0 0 ≡ least) → BeginsWithLeast members
begins least [] all first = tt
begins least (x ∷ xs) all first = subst (λ n. All (λ txn. n ≤ txn) xs) (sym (first (omega arith))) (All-tail (λ txn. least ≤ txn) x xs all)

pub turned-least : (old new : List ℕ) (place : ℕ) → new ≡ drop place old ++ take place old → IsPermutation old new → length new ≡ length old → (0 < length old → place < length old) → All (λ txn. get_or old place 0 ≤ txn) old → BeginsWithLeast new
turned-least old new place turned moved same_length inside least =
    begins (get_or old place 0) new (All-permutation (λ txn. get_or old place 0 ≤ txn) old new moved least)
    (λ some. ap (λ (xs : List ℕ). get_or xs 0 0) (turned ∙ ap (λ (xs : List ℕ). xs ++ take place old) (drop-cons old place 0 (inside (omega arith)))))

pub told-cycle : (edges : List Edge) (old new : List ℕ) → (place : ℕ) × (new ≡ drop place old ++ take place old) → IsCycle edges old → IsDistinct nat_eq old → BeginsWithLeast new → IsToldCycle edges new
told-cycle edges old new (place, turned) cycle distinct least =
    let parts = sym (take-append-drop place old) in
    record {
      cycle = subst (λ members. IsCycle edges members) (sym turned) (cycle-turned edges (take place old) (drop place old) (subst (λ members. IsCycle edges members) parts cycle));
      distinct = subst (λ members. IsDistinct nat_eq members) (sym turned) (distinct-turned (take place old) (drop place old) (subst (λ members. IsDistinct nat_eq members) parts distinct));
      least = least;
    }

-- ranks that fall along each edge

some_has : {A : Type 0} (o : Option A) → is_some o ≡ true → (x : A) × (o ≡ Some x)
some_has None there = cc
some_has (Some x) there = (x, refl)

module _ (edges : List Edge) (ranks : List (ℕ × ℕ)) (falls : FallAlong edges ranks) (ranked : (txn : ℕ) → IsNamed edges txn → (rank : ℕ) × Contains ranks (txn, rank)) where
  from-named : (from to : ℕ) → HasEdge edges from to → IsNamed edges from
  from-named from to (k, e, lt, is, h) = (k, e, lt, is, inl h.0)

  to-named : (from to : ℕ) → HasEdge edges from to → IsNamed edges to
  to-named from to (k, e, lt, is, h) = (k, e, lt, is, inr h.1)

  -- along a path the ranks fall from the first transaction on
  path-falls : (txn : ℕ) (others : List ℕ) (to high low : ℕ) → IsPath edges (txn ∷ others) to → Contains ranks (txn, high) → Contains ranks (to, low) → low < high
  path-falls txn [] to high low path first last = falls txn to high low path.0 first last
  path-falls txn (next ∷ others) to high low path first last =
      let (middle, among) = ranked next (to-named txn next path.0) in
      let below = falls txn next high middle path.0 first among in
      let rest = path-falls next others to middle low path.1 among last in
      omega arith

  pub no-cycle : HasNoCycle edges
  no-cycle [] cycle = cycle
  no-cycle (first ∷ others) cycle =
      let (rank, among) = ranked first (from-named first (first_or others first) cycle.0) in
      let below = path-falls first others first rank rank cycle among among in
      absurd (omega arith)

-- a walk of which nothing is left, and no step is on the path
module _ (edges : List Edge) (unseen : Txns) (ranks : Ranks) (walk : IsWalk edges unseen ranks []) (from_ranked : (k : ℕ) (e : Edge) → k < length edges → finite.contains_key ranks (get_or edges k e).from ≡ true) where
  list : List (ℕ × ℕ)
  list = finite.entries ranks

  falls-listed : FallAlong edges (finite.entries ranks)
  falls-listed from to high low edge first last =
      let (rank, some, lt) = walk.ranked.falls from to high (get-listed ranks from high first) edge in
      let same : Some rank ≡ Some low = sym some ∙ get-listed ranks to low last in
      let is : rank ≡ low = cc in
      omega arith

  named-ranked : (txn : ℕ) → IsNamed edges txn → finite.contains_key ranks txn ≡ true
  named-ranked txn (k, e, lt, is, inl comes) = ap (λ n. finite.contains_key ranks n) (sym (ap (λ (x : Edge). x.from) is ∙ comes)) ∙ from_ranked k e lt
  named-ranked txn (k, e, lt, is, inr goes) =
      let (high, some) = some_has (finite.get ranks e.from) (ap (λ (x : Edge). finite.contains_key ranks x.from) (sym is) ∙ from_ranked k e lt) in
      let (low, below, lower) = walk.ranked.falls e.from txn high some (k, e, lt, is, (refl, goes)) in
      ap (λ o. is_some o) below

  ranked-listed : (txn : ℕ) → IsNamed edges txn → (rank : ℕ) × Contains (finite.entries ranks) (txn, rank)
  ranked-listed txn named =
      let (rank, some) = some_has (finite.get ranks txn) (named-ranked txn named) in
      (rank, listed-get ranks txn rank some)

  listed-named : (txn : ℕ) → Contains (txns_of (finite.entries ranks)) txn → IsNamed edges txn
  listed-named txn among =
      let (rank, some) = some_has (finite.get ranks txn) (listed-txn ranks txn among) in
      walk.ranked.named txn rank some

  reached-listed : (txn rank : ℕ) → IsReached edges ranks txn (suc rank) → (to : ℕ) × HasEdge edges txn to × Contains (finite.entries ranks) (to, rank)
  reached-listed txn rank (inl none) = absurd (omega arith)
  reached-listed txn rank (inr (to, low, edge, some, more)) =
      let same : low ≡ rank = omega arith in
      (to, edge, listed-get ranks to rank (some ∙ ap (λ n. Some n) same))

  is-rank : (txn rank : ℕ) → Contains (finite.entries ranks) (txn, rank) → IsRank edges (finite.entries ranks) txn rank
  is-rank txn zero among = λ to edge. no_lower to (walk.ranked.falls txn to 0 (get-listed ranks txn 0 among) edge) where
    no_lower : (to : ℕ) → RanksBelow ranks to 0 → ⊥
    no_lower to (low, some, lt) = absurd (omega arith)
  is-rank txn (suc rank) among = (
    reached-listed txn rank (walk.ranked.reached txn (suc rank) (get-listed ranks txn (suc rank) among)),
    λ to other edge there. let lower = falls-listed txn to (suc rank) other edge among there in omega arith,
  )

  pub told-ranks : AreToldRanks edges (finite.entries ranks)
  told-ranks = record {
    named = λ txn. (listed-named txn, λ named. txn-listed ranks txn (named-ranked txn named));
    rising = entries-rising ranks;
    ranks_are = is-rank;
    falls = falls-listed;
    no_cycle = no-cycle edges (finite.entries ranks) falls-listed ranked-listed;
  }

-- the edges in another order

any-permuted : {X : Type 0} (P : X → Type 0) (xs ys : List X) → IsPermutation xs ys → Any P xs → Any P ys
any-permuted P xs ys moved (k, x, lt, is, holds) =
    let (j, below, there) = Contains-permutation xs ys x moved (k, lt, is) in
    (j, x, below, there, holds)

module _ (xs ys : List Edge) (moved : IsPermutation xs ys) where
  edge-there : (from to : ℕ) → HasEdge xs from to → HasEdge ys from to
  edge-there from to h = any-permuted (λ (e : Edge). (e.from ≡ from) × (e.to ≡ to)) xs ys moved h

  edge-back : (from to : ℕ) → HasEdge ys from to → HasEdge xs from to
  edge-back from to h = any-permuted (λ (e : Edge). (e.from ≡ from) × (e.to ≡ to)) ys xs (IsPermutation-sym xs ys moved) h

  path-there : (txns : List ℕ) (to : ℕ) → IsPath xs txns to → IsPath ys txns to
  path-there [] to h = tt
  path-there (txn ∷ others) to h = (edge-there txn (first_or others to) h.0, path-there others to h.1)

  path-again : (txns : List ℕ) (to : ℕ) → IsPath ys txns to → IsPath xs txns to
  path-again [] to h = tt
  path-again (txn ∷ others) to h = (edge-back txn (first_or others to) h.0, path-again others to h.1)

  cycle-there : (members : List ℕ) → IsCycle xs members → IsCycle ys members
  cycle-there [] h = h
  cycle-there (first ∷ others) h = path-there (first ∷ others) first h

  no-cycle-there : HasNoCycle xs → HasNoCycle ys
  no-cycle-there none [] h = h
  no-cycle-there none (first ∷ others) h = none (first ∷ others) (path-again (first ∷ others) first h)

  rank-there : (ranks : List (ℕ × ℕ)) (txn rank : ℕ) → IsRank xs ranks txn rank → IsRank ys ranks txn rank
  rank-there ranks txn zero h = λ to edge. h to (edge-back txn to edge)
  rank-there ranks txn (suc rank) ((to, edge, among), greatest) = ((to, edge-there txn to edge, among), λ to other edge there. greatest to other (edge-back txn to edge) there)

  named-there : (txn : ℕ) → IsNamed xs txn → IsNamed ys txn
  named-there txn h = any-permuted (λ (e : Edge). (e.from ≡ txn) ⊎ (e.to ≡ txn)) xs ys moved h

  named-back : (txn : ℕ) → IsNamed ys txn → IsNamed xs txn
  named-back txn h = any-permuted (λ (e : Edge). (e.from ≡ txn) ⊎ (e.to ≡ txn)) ys xs (IsPermutation-sym xs ys moved) h

  pub verdict-there : (verdict : Verdict) → IsVerdict xs verdict → IsVerdict ys verdict
  verdict-there (Cycle members) h = record { cycle = cycle-there members h.cycle; distinct = h.distinct; least = h.least }
  verdict-there (Ranked ranks) h = record {
    named = λ txn. (λ among. named-there txn ((h.named txn).0 among), λ named. (h.named txn).1 (named-back txn named));
    rising = h.rising;
    ranks_are = λ txn rank among. rank-there ranks txn rank (h.ranks_are txn rank among);
    falls = λ from to high low edge first last. h.falls from to high low (edge-back from to edge) first last;
    no_cycle = no-cycle-there h.no_cycle;
  }

-- a copy that is sorted
pub copy-moved : (edges copied ordered sorted : List Edge) → copied ≡ edges → IsPermutation copied ordered → sorted ≡ ordered → IsPermutation edges sorted
copy-moved edges copied ordered sorted copy moved shown = subst (λ (es : List Edge). IsPermutation es sorted) copy (subst (λ (es : List Edge). IsPermutation copied es) (sym shown) moved)

-- what a verdict says of the edges in one order it says of them in another
module _ (edges sorted : List Edge) (moved : IsPermutation edges sorted) (result : Result Verdict Memory) (told : IfOk result (IsVerdict sorted)) where
  pub if_cycle : (P : List ℕ → Type 0) → ((members : List ℕ) → IsToldCycle edges members → P members) → IfOk result (IfCycle P)
  if_cycle P says = go result told where
    of_verdict : (verdict : Verdict) → IsVerdict edges verdict → IfCycle P verdict
    of_verdict (Cycle members) h = says members h
    of_verdict (Ranked ranks) h = tt

    go : (r : Result Verdict Memory) → IfOk r (IsVerdict sorted) → IfOk r (IfCycle P)
    go (Ok verdict) h = of_verdict verdict (verdict-there sorted edges (IsPermutation-sym edges sorted moved) verdict h)
    go (Err refusal) h = tt

  pub if_ranked : (P : List (ℕ × ℕ) → Type 0) → ((ranks : List (ℕ × ℕ)) → AreToldRanks edges ranks → P ranks) → IfOk result (IfRanked P)
  if_ranked P says = go result told where
    of_verdict : (verdict : Verdict) → IsVerdict edges verdict → IfRanked P verdict
    of_verdict (Cycle members) h = tt
    of_verdict (Ranked ranks) h = says ranks h

    go : (r : Result Verdict Memory) → IfOk r (IsVerdict sorted) → IfOk r (IfRanked P)
    go (Ok verdict) h = of_verdict verdict (verdict-there sorted edges (IsPermutation-sym edges sorted moved) verdict h)
    go (Err refusal) h = tt
