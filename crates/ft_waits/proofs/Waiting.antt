-- What is listed are the waits-for edges of the state.
use Rattle.std.proofs.Common.{◌≡◌, ◌⊎◌, ◌↔◌, ◌++◌, ◌∙◌, ℕ, List, [], ◌∷◌, map, inl, inr, refl, sym, ap, subst}
use Rattle.std.specs.FinMap as finite
use Rattle.std.specs.List.{flat_map}
use Rattle.std.proofs.lemmas.List.Folds.{flat_map-map}
use Rattle.ft_laws.specs.Lists.{In}
use Rattle.ft_posix.specs.declared.call.Call.{Call}
use Rattle.ft_core.specs.States.{State}
use Rattle.ft_core.specs.Reports.{AreLiveChildren, as_wait, blockers_now, waits}
use Rattle.ft_core.specs.declared.reports.LiveChild.{LiveChild}
use Rattle.ft_core.specs.declared.reports.Pending.{Pending}
use Rattle.ft_waits.specs.declared.edge.Edge.{Edge}
use Rattle.ft_waits.specs.declared.edge.EdgeKind.{EdgeKind}
use Rattle.ft_waits.specs.declared.edge.EdgeKind.TheVariants.{Lock, Child}
use Rattle.ft_waits.specs.Edges.{WaitsForLock, WaitsForChild, WaitsFor}
use Rattle.ft_waits.specs.Listing.{lock_edges, child_edge}
use Rattle.ft_waits.proofs.Listed.{get-listed, listed-get}
use Rattle.ft_waits.proofs.Ordered.{in_contained, contains_in}

-- ---- to stand in lists that are made of others

pub in_append : {A : Type 0} (xs ys : List A) (x : A) → In x (xs ++ ys) → In x xs ⊎ In x ys
in_append [] ys x h = inr h
in_append (y ∷ xs) ys x (inl is) = inl (inl is)
in_append (y ∷ xs) ys x (inr h) = elim (in_append xs ys x h) [ inl k ↦ inl (inr k) | inr k ↦ inr k ]

pub in_left : {A : Type 0} (xs ys : List A) (x : A) → In x xs → In x (xs ++ ys)
in_left [] ys x h = absurd h
in_left (y ∷ xs) ys x (inl is) = inl is
in_left (y ∷ xs) ys x (inr h) = inr (in_left xs ys x h)

pub in_right : {A : Type 0} (xs ys : List A) (x : A) → In x ys → In x (xs ++ ys)
in_right [] ys x h = h
in_right (y ∷ xs) ys x h = inr (in_right xs ys x h)

pub in_map : {A B : Type 0} (f : A → B) (xs : List A) (x : A) → In x xs → In (f x) (map f xs)
in_map f [] x h = absurd h
in_map f (y ∷ xs) x (inl is) = inl (ap f is)
in_map f (y ∷ xs) x (inr h) = inr (in_map f xs x h)

pub from_map : {A B : Type 0} (f : A → B) (xs : List A) (b : B) → In b (map f xs) → (x : A) × In x xs × (b ≡ f x)
from_map f [] b h = absurd h
from_map f (y ∷ xs) b (inl is) = (y, inl refl, is)
from_map f (y ∷ xs) b (inr h) = let (x, there, is) = from_map f xs b h in (x, inr there, is)

pub in_flat : {A B : Type 0} (f : A → List B) (xs : List A) (x : A) (b : B) → In x xs → In b (f x) → In b (flat_map f xs)
in_flat f [] x b h k = absurd h
in_flat f (y ∷ xs) x b (inl is) k = in_left (f y) (flat_map f xs) b (subst (λ z. In b (f z)) is k)
in_flat f (y ∷ xs) x b (inr h) k = in_right (f y) (flat_map f xs) b (in_flat f xs x b h k)

pub from_flat : {A B : Type 0} (f : A → List B) (xs : List A) (b : B) → In b (flat_map f xs) → (x : A) × In x xs × In b (f x)
from_flat f [] b h = absurd h
from_flat f (y ∷ xs) b h = elim (in_append (f y) (flat_map f xs) b h) [
  | inl k ↦ (y, inl refl, k)
  | inr k ↦ let (x, there, made) = from_flat f xs b k in (x, inr there, made)
]

-- ---- the edges of a state

module _ (s : State) where
  -- the edges of the pending asks
  abbrev lock_listed : List Edge
  lock_listed = flat_map lock_edges (waits s)

  from_waits : (e : Edge) → In e lock_listed → WaitsFor s e.kind e.from e.to
  from_waits e h =
      let (wait, there, made) = from_flat lock_edges (waits s) e h in
      let (ask, asked, is_wait) = from_map (λ (ask : ℕ × Call). (ask.0, blockers_now s ask.0 ask.1)) (finite.entries s.asks) wait there in
      let (to, among, is_edge) = from_map (λ to. record { from = wait.0; to = to; kind = Lock }) wait.1 e made in
      subst (λ (x : Edge). WaitsFor s x.kind x.from x.to) (sym is_edge)
      (record {
        call = ask.1;
        pending = ap (λ n. finite.get s.asks n) (ap (λ (w : ℕ × List ℕ). w.0) is_wait) ∙ get-listed s.asks ask.0 ask.1 (contains_in (finite.entries s.asks) ask asked);
        blocked = subst (λ (n : ℕ). In to (blockers_now s n ask.1)) (sym (ap (λ (w : ℕ × List ℕ). w.0) is_wait)) (subst (In to) (ap (λ (w : ℕ × List ℕ). w.1) is_wait) among);
      })

  to_waits : (from to : ℕ) → WaitsForLock s from to → In (record { from = from; to = to; kind = Lock }) lock_listed
  to_waits from to h =
      let wait : ℕ × List ℕ = (from, blockers_now s from h.call) in
      let asked = in_contained (finite.entries s.asks) (from, h.call) (listed-get s.asks from h.call h.pending) in
      in_flat lock_edges (waits s) wait (record { from = from; to = to; kind = Lock }) (in_map (λ (ask : ℕ × Call). (ask.0, blockers_now s ask.0 ask.1)) (finite.entries s.asks) (from, h.call) asked)
      (in_map (λ n. record { from = from; to = n; kind = Lock }) (blockers_now s from h.call) to h.blocked)

  module _ (pairs : List LiveChild) (children : AreLiveChildren s pairs) where
    from_pairs : (e : Edge) → In e (map child_edge pairs) → WaitsFor s e.kind e.from e.to
    from_pairs e h =
        let (pair, there, is_edge) = from_map child_edge pairs e h in
        let (live, child) = (children.exact pair).0 there in
        subst (λ (x : Edge). WaitsFor s x.kind x.from x.to) (sym is_edge) (record { live = live; child = child })

    to_pairs : (from to : ℕ) → WaitsForChild s from to → In (record { from = from; to = to; kind = Child }) (map child_edge pairs)
    to_pairs from to h = in_map child_edge pairs (record { parent = from; child = to }) ((children.exact (record { parent = from; child = to })).1 (h.live, h.child))

    abbrev all : List Edge
    all = lock_listed ++ map child_edge pairs

    from_all : (e : Edge) → In e all → WaitsFor s e.kind e.from e.to
    from_all e h = elim (in_append lock_listed (map child_edge pairs) e h) [ inl k ↦ from_waits e k | inr k ↦ from_pairs e k ]

    to_all : (from to : ℕ) (kind : EdgeKind) → WaitsFor s kind from to → In (record { from = from; to = to; kind = kind }) all
    to_all from to Lock h = in_left lock_listed (map child_edge pairs) (record { from = from; to = to; kind = Lock }) (to_waits from to h)
    to_all from to Child h = in_right lock_listed (map child_edge pairs) (record { from = from; to = to; kind = Child }) (to_pairs from to h)

    -- what is listed one after another, from nothing
    pub listed_exact : (asks : List Pending) (none locks listed : List Edge) → map as_wait asks ≡ waits s → none ≡ [] → locks ≡ none ++ flat_map (λ wait. lock_edges (as_wait wait)) asks → listed ≡ locks ++ map child_edge pairs
        → (e : Edge) → In e listed ↔ WaitsFor s e.kind e.from e.to
    listed_exact asks none locks listed are_waits is_none are_locks are_listed e =
        let whole = are_listed ∙ ap (λ (es : List Edge). es ++ map child_edge pairs) (are_locks ∙ (ap (λ (es : List Edge). es ++ flat_map (λ wait. lock_edges (as_wait wait)) asks) is_none ∙ (sym (flat_map-map lock_edges as_wait asks) ∙ ap (flat_map lock_edges) are_waits))) in
        (λ h. from_all e (subst (In e) whole h), λ h. subst (In e) (sym whole) (to_all e.from e.to e.kind h))
