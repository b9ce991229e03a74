-- Each waits-for edge is listed once.
use Rattle.std.proofs.Common.{◌≡◌, ◌≢◌, ◌<◌, ◌++◌, ◌∙◌, ℕ, List, [], ◌∷◌, map, arith, refl, sym, ap, subst}
use Rattle.std.specs.FinMap as finite
use Rattle.std.specs.List.{flat_map}
use Rattle.std.specs.Ordering.{nat_cmp, ordering_then}
use Rattle.std.specs.declared.cmp.Ordering.{Ordering}
use Rattle.std.specs.declared.cmp.Ordering.TheVariants.{Less, Equal}
use Rattle.std.specs.Cmp.{nat_cmp_is}
use Rattle.std.proofs.lemmas.List.Folds.{flat_map-map}
use Rattle.ft_laws.specs.Lists.{Each, Pairs, In}
use Rattle.ft_laws.proofs.Lists.{Each-at, Each-from, Each-map, Pairs-map, Pairs-append}
use Rattle.ft_posix.specs.declared.call.Call.{Call}
use Rattle.ft_core.specs.States.{State}
use Rattle.ft_core.specs.Reports.{AreLiveChildren, HasRisingBlockers, as_wait, blockers_now, child_cmp, waits}
use Rattle.ft_core.specs.declared.reports.LiveChild.{LiveChild}
use Rattle.ft_core.specs.declared.reports.Pending.{Pending}
use Rattle.ft_waits.specs.declared.edge.Edge.{Edge}
use Rattle.ft_waits.specs.declared.edge.EdgeKind.{EdgeKind}
use Rattle.ft_waits.specs.declared.edge.EdgeKind.TheVariants.{Lock, Child}
use Rattle.ft_waits.specs.Listing.{lock_edges, child_edge}
use Rattle.ft_waits.proofs.Listed.{entries_apart}
use Rattle.ft_waits.proofs.Waiting.{from_map, from_flat}

-- ---- pairs in lists that are made of others

each_of_map : {A B : Type 0} (P : B → Type 0) (f : A → B) (xs : List A) → Each (λ x. P (f x)) xs → Each P (map f xs)
each_of_map P f [] h = tt
each_of_map P f (x ∷ xs) h = (h.0, each_of_map P f xs h.1)

pairs_of_map : {A B : Type 0} (R : B → B → Type 0) (f : A → B) (xs : List A) → Pairs (λ x y. R (f x) (f y)) xs → Pairs R (map f xs)
pairs_of_map R f [] h = tt
pairs_of_map R f (x ∷ xs) h = (each_of_map (R (f x)) f xs h.0, pairs_of_map R f xs h.1)

pairs_of_flat : {A B : Type 0} (R : B → B → Type 0) (f : A → List B) (xs : List A) → Each (λ x. Pairs R (f x)) xs → Pairs (λ x y. (a b : B) → In a (f x) → In b (f y) → R a b) xs → Pairs R (flat_map f xs)
pairs_of_flat R f [] within between = tt
pairs_of_flat {A} {B} R f (x ∷ xs) within between =
    Pairs-append R (f x) (flat_map f xs) within.0 (pairs_of_flat R f xs within.1 between.1)
    (λ a b here there. let (y, among, made) = from_flat f xs b there in Each-at (λ y. (a b : B) → In a (f x) → In b (f y) → R a b) xs y between.0 among a b here made)

-- ---- the edges of a state

from_txn : (wait : ℕ × List ℕ) (e : Edge) → In e (lock_edges wait) → e.from ≡ wait.0
from_txn wait e h = let (to, among, is_edge) = from_map (λ to. record { from = wait.0; to = to; kind = Lock }) wait.1 e h in ap (λ (x : Edge). x.from) is_edge

one_wait : (wait : ℕ × List ℕ) → Pairs (λ x y. x < y) wait.1 → Pairs (λ x y. x ≢ y) (lock_edges wait)
one_wait wait rising =
    let edge : ℕ → Edge = λ to. record { from = wait.0; to = to; kind = Lock } in
    pairs_of_map (λ x y. x ≢ y) edge wait.1 (Pairs-map (λ x y. x < y) (λ x y. edge x ≢ edge y) (λ x y less same. let is = ap (λ (e : Edge). e.to) same in absurd (omega arith)) wait.1 rising)

two_waits : (v w : ℕ × List ℕ) → v.0 ≢ w.0 → (a b : Edge) → In a (lock_edges v) → In b (lock_edges w) → a ≢ b
two_waits v w apart a b here there same = apart (sym (from_txn v a here) ∙ ap (λ (e : Edge). e.from) same ∙ from_txn w b there)

cmp_self : (n : ℕ) → nat_cmp n n ≡ Equal
cmp_self n = sym (nat_cmp_is n n Equal refl)

two_children : (x y : LiveChild) → child_cmp x y ≡ Less → child_edge x ≢ child_edge y
two_children x y less same =
    let equal : child_cmp x y ≡ Equal =
    ap (λ n. ordering_then (nat_cmp x.parent n) (nat_cmp x.child y.child)) (sym (ap (λ (e : Edge). e.from) same))
    ∙ ap (λ n. ordering_then (nat_cmp x.parent x.parent) (nat_cmp x.child n)) (sym (ap (λ (e : Edge). e.to) same))
    ∙ ap (λ o. ordering_then o (nat_cmp x.child x.child)) (cmp_self x.parent)
    ∙ cmp_self x.child in
    cc

lock_of_flat : (list : List (ℕ × List ℕ)) (e : Edge) → In e (flat_map lock_edges list) → e.kind ≡ Lock
lock_of_flat list e h =
    let (wait, among, made) = from_flat lock_edges list e h in
    let (to, there, is_edge) = from_map (λ to. record { from = wait.0; to = to; kind = Lock }) wait.1 e made in
    ap (λ (x : Edge). x.kind) is_edge

child_of_map : (pairs : List LiveChild) (e : Edge) → In e (map child_edge pairs) → e.kind ≡ Child
child_of_map pairs e h = let (pair, among, is_edge) = from_map child_edge pairs e h in ap (λ (x : Edge). x.kind) is_edge

module _ (s : State) where
  waits_apart : Pairs (λ v w. v.0 ≢ w.0) (waits s)
  waits_apart = pairs_of_map (λ v w. v.0 ≢ w.0) (λ (ask : ℕ × Call). (ask.0, blockers_now s ask.0 ask.1)) (finite.entries s.asks) (entries_apart s.asks)

  -- what is listed one after another, from nothing
  pub listed_once : (pairs : List LiveChild) → AreLiveChildren s pairs → (asks : List Pending) (none locks listed : List Edge) → map as_wait asks ≡ waits s → Each HasRisingBlockers asks → none ≡ [] → locks ≡ none ++ flat_map (λ wait. lock_edges (as_wait wait)) asks → listed ≡ locks ++ map child_edge pairs
      → Pairs (λ x y. x ≢ y) listed
  listed_once pairs children asks none locks listed are_waits rising is_none are_locks are_listed =
      let whole : listed ≡ flat_map lock_edges (map as_wait asks) ++ map child_edge pairs =
      are_listed ∙ ap (λ (es : List Edge). es ++ map child_edge pairs) (are_locks ∙ (ap (λ (es : List Edge). es ++ flat_map (λ wait. lock_edges (as_wait wait)) asks) is_none ∙ sym (flat_map-map lock_edges as_wait asks))) in
      let waits_rising : Each (λ wait. Pairs (λ x y. x ≢ y) (lock_edges wait)) (map as_wait asks) =
      each_of_map (λ wait. Pairs (λ x y. x ≢ y) (lock_edges wait)) as_wait asks (Each-map HasRisingBlockers (λ ask. Pairs (λ x y. x ≢ y) (lock_edges (as_wait ask))) (λ ask h. one_wait (as_wait ask) h) asks rising) in
      let between : Pairs (λ v w. (a b : Edge) → In a (lock_edges v) → In b (lock_edges w) → a ≢ b) (map as_wait asks) =
      Pairs-map (λ v w. v.0 ≢ w.0) (λ v w. (a b : Edge) → In a (lock_edges v) → In b (lock_edges w) → a ≢ b) two_waits (map as_wait asks) (subst (Pairs (λ (v w : ℕ × List ℕ). v.0 ≢ w.0)) (sym are_waits) waits_apart) in
      subst (Pairs (λ x y. x ≢ y)) (sym whole)
      (Pairs-append (λ x y. x ≢ y) (flat_map lock_edges (map as_wait asks)) (map child_edge pairs)
      (pairs_of_flat (λ x y. x ≢ y) lock_edges (map as_wait asks) waits_rising between)
      (pairs_of_map (λ x y. x ≢ y) child_edge pairs (Pairs-map (λ x y. child_cmp x y ≡ Less) (λ x y. child_edge x ≢ child_edge y) two_children pairs children.order))
      (λ x y here there same. let lock = lock_of_flat (map as_wait asks) x here in let child = child_of_map pairs y there in let kinds = ap (λ (e : Edge). e.kind) same in cc))
