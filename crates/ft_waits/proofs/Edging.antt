-- The edges where calls wait behind older asks, and who is ahead.
use Rattle.std.proofs.Common.{◌≡◌, ◌++◌, ◌&&◌, ◌==◌, ◌∙◌, ℕ, Bool, true, false, not, List, [], map, filter, inl, inr, refl, sym, ap, subst, eqb-true}
use Rattle.std.specs.FinMap as finite
use Rattle.std.specs.List.{flat_map, list_any}
use Rattle.std.proofs.lemmas.Bool.{false≢true, and_parts}
use Rattle.std.proofs.lemmas.List.Folds.{flat_map-map}
use Rattle.std.proofs.lemmas.Map.Views.{any-filter_same}
use Rattle.ft_laws.specs.Lists.{In}
use Rattle.ft_laws.proofs.Tests.{by_test}
use Rattle.ft_posix.specs.declared.call.Call.{Call}
use Rattle.ft_core.specs.Fairness.{fair_rule, in_front, waits_behind}
use Rattle.ft_core.specs.States.{State, accesses_now}
use Rattle.ft_core.specs.Reports.{AreLiveChildren, as_wait}
use Rattle.ft_core.specs.declared.reports.LiveChild.{LiveChild}
use Rattle.ft_core.specs.declared.reports.Pending.{Pending}
use Rattle.ft_waits.specs.declared.edge.Edge.{Edge}
use Rattle.ft_waits.specs.declared.edge.EdgeKind.TheVariants.{Lock, Child}
use Rattle.ft_waits.specs.Behind.{AreAhead, AreEdgesBehind, AreWhoWait, HasAllWhoWait, MayWaitFor, WaitsBehind, WaitsThrough}
use Rattle.ft_waits.specs.Edges.{WaitsForChild}
use Rattle.ft_waits.specs.Listing.{lock_edges, child_edge}
use Rattle.ft_waits.proofs.Listed.{get-listed, listed-get}
use Rattle.ft_waits.proofs.Ordered.{in_contained, contains_in}
use Rattle.ft_waits.proofs.Waiting.{in_append, in_left, in_right, in_map, from_map, in_flat, from_flat}

module _ (s : State) (queue : List ℕ) where
  abbrev blockers : ℕ → Call → List ℕ
  blockers t call = fair_rule (in_front queue t) s t (accesses_now s call)

  abbrev lock_listed : List Edge
  lock_listed = flat_map lock_edges (waits_behind s queue)

  from_waits : (e : Edge) → In e lock_listed → MayWaitFor s queue e.from e.to
  from_waits e h =
      let (wait, there, made) = from_flat lock_edges (waits_behind s queue) e h in
      let (ask, asked, is_wait) = from_map (λ (ask : ℕ × Call). (ask.0, blockers ask.0 ask.1)) (finite.entries s.asks) wait there in
      let (to, among, is_edge) = from_map (λ to. record { from = wait.0; to = to; kind = Lock }) wait.1 e made in
      subst (λ (x : Edge). MayWaitFor s queue x.from x.to) (sym is_edge)
      (inl (record {
        call = ask.1;
        pending = ap (λ n. finite.get s.asks n) (ap (λ (w : ℕ × List ℕ). w.0) is_wait) ∙ get-listed s.asks ask.0 ask.1 (contains_in (finite.entries s.asks) ask asked);
        blocked = subst (λ (n : ℕ). In to (blockers n ask.1)) (sym (ap (λ (w : ℕ × List ℕ). w.0) is_wait)) (subst (In to) (ap (λ (w : ℕ × List ℕ). w.1) is_wait) among);
      }))

  to_waits : (from to : ℕ) → WaitsBehind s queue from to → In (record { from = from; to = to; kind = Lock }) lock_listed
  to_waits from to h =
      let wait : ℕ × List ℕ = (from, blockers from h.call) in
      let asked = in_contained (finite.entries s.asks) (from, h.call) (listed-get s.asks from h.call h.pending) in
      in_flat lock_edges (waits_behind s queue) wait (record { from = from; to = to; kind = Lock }) (in_map (λ (ask : ℕ × Call). (ask.0, blockers ask.0 ask.1)) (finite.entries s.asks) (from, h.call) asked)
      (in_map (λ n. record { from = from; to = n; kind = Lock }) (blockers from h.call) to h.blocked)

  module _ (pairs : List LiveChild) (children : AreLiveChildren s pairs) where
    from_pairs : (e : Edge) → In e (map child_edge pairs) → MayWaitFor s queue e.from e.to
    from_pairs e h =
        let (pair, there, is_edge) = from_map child_edge pairs e h in
        let (live, child) = (children.exact pair).0 there in
        subst (λ (x : Edge). MayWaitFor s queue x.from x.to) (sym is_edge) (inr (record { live = live; child = child }))

    to_pairs : (from to : ℕ) → WaitsForChild s from to → In (record { from = from; to = to; kind = Child }) (map child_edge pairs)
    to_pairs from to h = in_map child_edge pairs (record { parent = from; child = to }) ((children.exact (record { parent = from; child = to })).1 (h.live, h.child))

    abbrev all : List Edge
    all = lock_listed ++ map child_edge pairs

    from_all : (e : Edge) → In e all → MayWaitFor s queue e.from e.to
    from_all e h = elim (in_append lock_listed (map child_edge pairs) e h) [ inl k ↦ from_waits e k | inr k ↦ from_pairs e k ]

    to_all : (from to : ℕ) → MayWaitFor s queue from to → (e : Edge) × In e all × (e.from ≡ from) × (e.to ≡ to)
    to_all from to (inl h) = (record { from = from; to = to; kind = Lock }, in_left lock_listed (map child_edge pairs) (record { from = from; to = to; kind = Lock }) (to_waits from to h), refl, refl)
    to_all from to (inr h) = (record { from = from; to = to; kind = Child }, in_right lock_listed (map child_edge pairs) (record { from = from; to = to; kind = Child }) (to_pairs from to h), refl, refl)

    -- what is listed one after another, from nothing
    pub listed_behind : (asks : List Pending) (none locks listed : List Edge) → map as_wait asks ≡ waits_behind s queue → none ≡ [] → locks ≡ none ++ flat_map (λ wait. lock_edges (as_wait wait)) asks → listed ≡ locks ++ map child_edge pairs
        → AreEdgesBehind s queue listed
    listed_behind asks none locks listed are_waits is_none are_locks are_listed =
        let whole = are_listed ∙ ap (λ (es : List Edge). es ++ map child_edge pairs) (are_locks ∙ (ap (λ (es : List Edge). es ++ flat_map (λ wait. lock_edges (as_wait wait)) asks) is_none ∙ (sym (flat_map-map lock_edges as_wait asks) ∙ ap (flat_map lock_edges) are_waits))) in
        subst (AreEdgesBehind s queue) (sym whole) (from_all, to_all)

-- ---- who is ahead

-- to be among those that pass a test
among-filter : (p : ℕ → Bool) (u : ℕ) (xs : List ℕ) → list_any (λ x. x == u) (filter p xs) ≡ (p u && list_any (λ x. x == u) xs)
among-filter p u xs = any-filter_same (λ x. x == u) p (p u) (λ x tied. ap p (eqb-true x u tied)) xs

-- nobody stands in front
pub none-ahead : (s : State) (queue : List ℕ) (t : ℕ) (ahead : List ℕ) → in_front queue t ≡ [] → ahead ≡ [] → AreAhead s queue t ahead
none-ahead s queue t ahead front none = λ u. (
  (λ is. absurd (false≢true (ap (λ xs. list_any (λ x. x == u) xs) (sym none) ∙ is))),
  (λ has. absurd (false≢true (ap (λ xs. list_any (λ x. x == u) xs) (sym front) ∙ has.0))),
)

module _ (s : State) (queue : List ℕ) (t : ℕ) (edges : List Edge) (are : AreEdgesBehind s queue edges) (found : ℕ → Bool) (wait : AreWhoWait edges t found) where
  -- what has all that may wait has them along edges
  found-all : HasAllWhoWait s queue found
  found-all from to may in_it =
      let (e, i, is_from, is_to) = are.1 from to may in
      ap found (sym is_from) ∙ wait.all e i (ap found is_to ∙ in_it)

  -- who is found waits
  found-waits : (u : ℕ) → found u ≡ true → WaitsThrough s queue u t
  found-waits u is = λ among has own. wait.least among (λ e i leads. has e.from e.to (are.0 e i) leads) own u is

  -- and who waits is found
  waits-found : (u : ℕ) → WaitsThrough s queue u t → found u ≡ true
  waits-found u waits = waits found found-all wait.own

  pub are-ahead : (ahead : List ℕ) → ahead ≡ filter (λ u. not (found u)) (in_front queue t) → AreAhead s queue t ahead
  are-ahead ahead is u =
      let same : list_any (λ x. x == u) ahead ≡ (not (found u) && list_any (λ x. x == u) (in_front queue t)) = ap (λ xs. list_any (λ x. x == u) xs) is ∙ among-filter (λ x. not (found x)) u (in_front queue t) in (
        (λ is_in. let both = and_parts (not (found u)) (list_any (λ x. x == u) (in_front queue t)) (sym same ∙ is_in) in (both.1, λ waits. unfound (found u) both.0 (waits-found u waits))),
        (λ has. same ∙ (λ i. missing u has.1 i && has.0 i)),
      )
    where
      missing : (u : ℕ) → ¬ WaitsThrough s queue u t → not (found u) ≡ true
      missing u waits_not = by_test (found u) (λ is. absurd (waits_not (found-waits u is))) (λ is. ap not is)

      unfound : (b : Bool) → not b ≡ true → b ≡ true → ⊥
      unfound true left in_it = false≢true left
      unfound false left in_it = false≢true in_it
