-- The map that the places of a directory make, and what a change of one place leaves of it.
use Rattle.std.proofs.Common.{◌≡◌, ◌≢◌, ◌<◌, ◌≤◌, ◌+◌, ◌-◌, ℕ, zero, suc, List, [], ◌∷◌, ◌++◌, Option, Some, None, Bool, true, false, cond, map, length, set, get_or, refl, sym, ap, subst, arith, ◌∙◌}
use Rattle.std.proofs.lemmas.Bool.{false≢true}
use Rattle.std.proofs.lemmas.Map.Lookups.{exact_bytes}
use Rattle.std.proofs.lemmas.Map.Views.{tells_apart}
use Rattle.std.proofs.lemmas.Option.{slice_get-get_or, slice_get-map}
use Rattle.std.proofs.lemmas.List.{length-map}
use Rattle.std.proofs.Math.ListN.{length-set, length-take}
use Rattle.std.specs.List.{swap_remove}
use Rattle.std.specs.Prelude.{slice_get, option_map}
use Rattle.std.specs.Ordering.{nat_cmp, eq_by_cmp}
use Rattle.std.specs.Cmp.{eq_by_cmp_equiv}
use Rattle.std.specs.Cmp.Lexicographic.{slice_cmp, nat_list_cmp_total}
use Rattle.std.specs.FinMap.{FinMap, find, get, insert, remove, from_entries, get-insert, get-remove, get-from_entries, same_map}
use Rattle.ft_cells.specs.declared.node.Node.{Node}
use Rattle.ft_inodes.specs.declared.place.Place.{Place}
use Rattle.ft_inodes.specs.Named.{Entries, pair, pairs_in, entries_in, names_in, AreApart, IsFoundAt, IsSwapped}
use Rattle.ft_inodes.proofs.Indexed.{names-append}
use Rattle.ft_inodes.proofs.Seats.{by_test, by_order, by_same, seat-push_end, seat-push_other, seat-past, seat-within, seat-set_here, seat-set_other}

abbrev pub Pairs : Type 0
Pairs = List (List ℕ × Option Node)

-- the parts of pairs that are the same
same_key : (p r : List ℕ × Option Node) → Some p ≡ Some r → p.0 ≡ r.0
same_key p r is = let e : p ≡ r = cc in ap (λ (x : List ℕ × Option Node). x.0) e

same_child : (p r : List ℕ × Option Node) → Some p ≡ Some r → p.1 ≡ r.1
same_child p r is = let e : p ≡ r = cc in ap (λ (x : List ℕ × Option Node). x.1) e

pub alike : (q k : List ℕ) → eq_by_cmp (slice_cmp nat_cmp) q k ≡ true → q ≡ k
alike q k e = tells_apart exact_bytes q k e

pub reflexive : (q : List ℕ) → eq_by_cmp (slice_cmp nat_cmp) q q ≡ true
reflexive q = (eq_by_cmp_equiv nat_list_cmp_total).refl q

unlike : (q k : List ℕ) → eq_by_cmp (slice_cmp nat_cmp) q k ≡ false → q ≢ k
unlike q k e same = false≢true (sym e ∙ ap (eq_by_cmp (slice_cmp nat_cmp) q) (sym same) ∙ reflexive q)

-- no key stands twice
abbrev pub Apart : Pairs → Type 0
Apart es = (i j : ℕ) (q : List ℕ) (v w : Option Node) → slice_get es i ≡ Some (q, v) → slice_get es j ≡ Some (q, w) → i ≡ j

pub found : (es : Pairs) (q : List ℕ) (v : Option Node) → find (slice_cmp nat_cmp) q es ≡ Some v → (i : ℕ) × (slice_get es i ≡ Some (q, v))
found [] q v is = absurd (cc)
found (e ∷ es) q v is = by_test (eq_by_cmp (slice_cmp nat_cmp) q e.0)
    (λ t. let w : Some e.1 ≡ Some v = sym (ap (λ b. cond b (Some e.1) (find (slice_cmp nat_cmp) q es)) t) ∙ is in
    let x : e.1 ≡ v = cc in
    let k = sym (alike q e.0 t) in
    (0, λ i. Some (k i, x i)))
    (λ t. let rest = found es q v (sym (ap (λ b. cond b (Some e.1) (find (slice_cmp nat_cmp) q es)) t) ∙ is) in (suc rest.0, rest.1))

some_found : (es : Pairs) (i : ℕ) (q : List ℕ) (v : Option Node) → slice_get es i ≡ Some (q, v) → (w : Option Node) × (find (slice_cmp nat_cmp) q es ≡ Some w)
some_found [] i q v is = absurd (cc)
some_found (e ∷ es) zero q v is =
    let k : e ≡ (q, v) = cc in
    (e.1, ap (λ b. cond b (Some e.1) (find (slice_cmp nat_cmp) q es)) (ap (λ (x : List ℕ × Option Node). eq_by_cmp (slice_cmp nat_cmp) q x.0) k ∙ reflexive q))
some_found (e ∷ es) (suc i) q v is = by_test (eq_by_cmp (slice_cmp nat_cmp) q e.0)
    (λ t. (e.1, ap (λ b. cond b (Some e.1) (find (slice_cmp nat_cmp) q es)) t))
    (λ t. let rest = some_found es i q v is in (rest.0, ap (λ b. cond b (Some e.1) (find (slice_cmp nat_cmp) q es)) t ∙ rest.1))

pub has_found : (es : Pairs) (i : ℕ) (q : List ℕ) (v : Option Node) → Apart es → slice_get es i ≡ Some (q, v) → find (slice_cmp nat_cmp) q es ≡ Some v
has_found es i q v apart is =
    let some = some_found es i q v is in
    let at = found es q some.0 some.1 in
    let same = apart i at.0 q v some.0 is at.1 in
    let both : Some (q, v) ≡ Some (q, some.0) = sym is ∙ ap (slice_get es) same ∙ at.1 in
    let x : v ≡ some.0 = same_child (q, v) (q, some.0) both in
    some.1 ∙ ap (λ w. Some w) (sym x)

pub not_some : (o : Option (Option Node)) → ((v : Option Node) → o ≡ Some v → ⊥) → o ≡ None
not_some o never = elim o as (λ p. o ≡ p → p ≡ None) [ Some v ↦ λ is. absurd (never v is) | None ↦ λ is. refl ] refl

pub by_value : (o p : Option (Option Node)) → ((v : Option Node) → o ≡ Some v → p ≡ Some v) → ((v : Option Node) → p ≡ Some v → o ≡ Some v) → o ≡ p
by_value (Some v) p to back = sym (to v refl)
by_value None (Some w) to back = back w refl
by_value None None to back = refl

pub get_is : (es : Pairs) (m : Entries) (q : List ℕ) → from_entries es ≡ m → find (slice_cmp nat_cmp) q es ≡ get m q
get_is es m q seen = sym (get-from_entries nat_list_cmp_total es q) ∙ ap (λ n. get n q) seen

-- what the map has
pub get_there : (es : Pairs) (m : Entries) (i : ℕ) (q : List ℕ) (v : Option Node) → from_entries es ≡ m → Apart es → slice_get es i ≡ Some (q, v) → get m q ≡ Some v
get_there es m i q v seen apart is = sym (get_is es m q seen) ∙ has_found es i q v apart is

pub get_none : (es : Pairs) (m : Entries) (q : List ℕ) → from_entries es ≡ m → ((i : ℕ) (v : Option Node) → slice_get es i ≡ Some (q, v) → ⊥) → get m q ≡ None
get_none es m q seen never = sym (get_is es m q seen) ∙ not_some (find (slice_cmp nat_cmp) q es) (λ v is. let at = found es q v is in never at.0 v at.1)

-- but for one key, one list has what the other has
abbrev pub Keeps : Pairs → Pairs → List ℕ → Type 0
Keeps es fs k = (i : ℕ) (q : List ℕ) (v : Option Node) → q ≢ k → slice_get es i ≡ Some (q, v) → (j : ℕ) × (slice_get fs j ≡ Some (q, v))

module _ (es fs : Pairs) (m : Entries) (k : List ℕ) (seen : from_entries es ≡ m) (old : Apart es) (new : Apart fs) (to : Keeps es fs k) (back : Keeps fs es k) where
  other_key : (q : List ℕ) → q ≢ k → find (slice_cmp nat_cmp) q fs ≡ get m q
  other_key q other = by_value (find (slice_cmp nat_cmp) q fs) (find (slice_cmp nat_cmp) q es)
      (λ v is. let at = found fs q v is in let there = back at.0 q v other at.1 in has_found es there.0 q v old there.1)
      (λ v is. let at = found es q v is in let there = to at.0 q v other at.1 in has_found fs there.0 q v new there.1)
      ∙ get_is es m q seen

  pub map-put : (i : ℕ) (v : Option Node) → slice_get fs i ≡ Some (k, v) → from_entries fs ≡ insert m k v
  map-put i v here = same_map nat_list_cmp_total exact_bytes _ _ (λ q. get-from_entries nat_list_cmp_total fs q ∙ by_test (eq_by_cmp (slice_cmp nat_cmp) q k)
      (λ t. ap (λ n. find (slice_cmp nat_cmp) n fs) (alike q k t) ∙ has_found fs i k v new here ∙ ap (λ b. cond b (Some v) (get m q)) (sym t))
      (λ t. other_key q (unlike q k t) ∙ ap (λ b. cond b (Some v) (get m q)) (sym t))
      ∙ sym (get-insert nat_list_cmp_total m k v q))

  pub map-gone : ((i : ℕ) (v : Option Node) → slice_get fs i ≡ Some (k, v) → ⊥) → from_entries fs ≡ remove m k
  map-gone never = same_map nat_list_cmp_total exact_bytes _ _ (λ q. get-from_entries nat_list_cmp_total fs q ∙ by_test (eq_by_cmp (slice_cmp nat_cmp) q k)
      (λ t. ap (λ n. find (slice_cmp nat_cmp) n fs) (alike q k t) ∙ not_some (find (slice_cmp nat_cmp) k fs) (λ v is. let at = found fs k v is in never at.0 v at.1) ∙ ap (λ b. cond b None (get m q)) (sym t))
      (λ t. other_key q (unlike q k t) ∙ ap (λ b. cond b None (get m q)) (sym t))
      ∙ sym (get-remove nat_list_cmp_total m k q))

-- the name of a pair is that of its place
pub pair_name : (places : List Place) (i : ℕ) (q : List ℕ) (v : Option Node) → slice_get (pairs_in places) i ≡ Some (q, v) → slice_get (names_in places) i ≡ Some q
pair_name [] i q v is = absurd (cc)
pair_name (x ∷ places) zero q v is = let e : pair x ≡ (q, v) = cc in ap (λ (p : List ℕ × Option Node). Some p.0) e
pair_name (x ∷ places) (suc i) q v is = pair_name places i q v is

pub name_pair : (places : List Place) (i : ℕ) (q : List ℕ) → slice_get (names_in places) i ≡ Some q → (v : Option Node) × (slice_get (pairs_in places) i ≡ Some (q, v))
name_pair [] i q is = absurd (cc)
name_pair (x ∷ places) zero q is = let e : x.name ≡ q = cc in (x.child, λ i. Some (e i, x.child))
name_pair (x ∷ places) (suc i) q is = name_pair places i q is

pub pairs_apart : (places : List Place) → AreApart (names_in places) → Apart (pairs_in places)
pairs_apart places apart i j q v w a b = apart i j q (pair_name places i q v a) (pair_name places j q w b)

-- a name that stands nowhere has no pair
pub no_pair : (places : List Place) (q : List ℕ) → IsFoundAt (names_in places) q None → (i : ℕ) (v : Option Node) → slice_get (pairs_in places) i ≡ Some (q, v) → ⊥
no_pair places q none i v is = none i (pair_name places i q v is)

-- a new name behind the others
pub apart_more : (names : List (List ℕ)) (name : List ℕ) → AreApart names → IsFoundAt names name None → AreApart (names ++ name ∷ [])
apart_more names name apart none i j q a b =
    let old = λ (n : ℕ) (other : n ≢ length names) (is : slice_get (names ++ name ∷ []) n ≡ Some q). sym (seat-push_other names name n other) ∙ is in
    let last = λ (n : ℕ) (same : n ≡ length names) (is : slice_get (names ++ name ∷ []) n ≡ Some q). let s : Some name ≡ Some q = sym (seat-push_end names name) ∙ ap (slice_get (names ++ name ∷ [])) (sym same) ∙ is in let e : name ≡ q = cc in e in
    by_same i (length names)
    (λ s. by_same j (length names) (λ t. s ∙ sym t) (λ t. absurd (none j (old j t b ∙ ap (λ n. Some n) (sym (last i s a))))))
    (λ s. by_same j (length names) (λ t. absurd (none i (old i s a ∙ ap (λ n. Some n) (sym (last j t b))))) (λ t. apart i j q (old i s a) (old j t b)))

module _ (es : Pairs) (k : List ℕ) (v : Option Node) where
  pub push_to : Keeps es (es ++ (k, v) ∷ []) k
  push_to i q w other is = (i, seat-push_other es (k, v) i (λ e. let lt = seat-within es i (q, w) is in omega arith) ∙ is)

  pub push_back : Keeps (es ++ (k, v) ∷ []) es k
  push_back i q w other is = by_same i (length es)
      (λ same. absurd (let s : Some (k, v) ≡ Some (q, w) = sym (seat-push_end es (k, v)) ∙ ap (slice_get (es ++ (k, v) ∷ [])) (sym same) ∙ is in let e : k ≡ q = same_key (k, v) (q, w) s in other (sym e)))
      (λ apart. (i, sym (seat-push_other es (k, v) i apart) ∙ is))

  module _ (i : ℕ) (was : Option Node) (there : slice_get es i ≡ Some (k, was)) where
    pub set_to : Keeps es (set es i (k, v)) k
    set_to j q w other is = (j, seat-set_other es i j (k, v) (λ e. let s : Some (k, was) ≡ Some (q, w) = sym there ∙ ap (slice_get es) (sym e) ∙ is in let x : k ≡ q = same_key (k, was) (q, w) s in other (sym x)) ∙ is)

    pub set_back : Keeps (set es i (k, v)) es k
    set_back j q w other is = by_same j i
        (λ same. absurd (let s : Some (k, v) ≡ Some (q, w) = sym (seat-set_here es i (k, v) (seat-within es i (k, was) there)) ∙ ap (slice_get (set es i (k, v))) (sym same) ∙ is in let x : k ≡ q = same_key (k, v) (q, w) s in other (sym x)))
        (λ apart. (j, sym (seat-set_other es i j (k, v) apart) ∙ is))

pub swapped-map : {X Y : Type 0} (f : X → Y) (old new : List X) (i : ℕ) → IsSwapped old new i → IsSwapped (map f old) (map f new) i
swapped-map f old new i s =
    let a = length-map old f in let b = length-map new f in let c = s.shorter in
    record {
      shorter = omega arith;
      last = λ lt. slice_get-map f new i ∙ ap (option_map f) (s.last (omega arith)) ∙ sym (slice_get-map f old (length old - 1)) ∙ ap (λ n. slice_get (map f old) (n - 1)) (sym a);
      others = λ k other lt. slice_get-map f new k ∙ ap (option_map f) (s.others k other (omega arith)) ∙ sym (slice_get-map f old k);
    }

module _ {X : Type 0} (old new : List X) (i : ℕ) (s : IsSwapped old new i) (inside : i < length old) where
  -- where what is left stood
  pub came_from : (j : ℕ) (x : X) → slice_get new j ≡ Some x → (k : ℕ) × (k ≢ i) × (slice_get old k ≡ Some x)
  came_from j x is =
      let short = s.shorter in
      let lt = seat-within new j x is in
      by_same j i
      (λ same. let low : i + 1 < length old = omega arith in
      (length old - 1, (λ e. omega arith), sym (s.last low) ∙ ap (slice_get new) (sym same) ∙ is))
      (λ other. (j, other, sym (s.others j other (omega arith)) ∙ is))

  -- where what is not taken out stands
  pub goes_to : (k : ℕ) (x : X) → k ≢ i → slice_get old k ≡ Some x → (j : ℕ) × (slice_get new j ≡ Some x)
  goes_to k x other is =
      let lt = seat-within old k x is in
      by_same k (length old - 1)
      (λ same. (i, s.last (omega arith) ∙ ap (slice_get old) (sym same) ∙ is))
      (λ apart. (k, s.others k other (omega arith) ∙ is))

pub apart_less : (old new : List (List ℕ)) (i : ℕ) → IsSwapped old new i → i < length old → AreApart old → AreApart new
apart_less old new i s inside apart j k name a b =
    let short = s.shorter in
    let lt = seat-within new j name a in
    let gt = seat-within new k name b in
    let at = λ (n : ℕ) (other : n ≢ i) (below : n < length new) (is : slice_get new n ≡ Some name). sym (s.others n other (omega arith)) ∙ is in
    let end = λ (n : ℕ) (same : n ≡ i) (below : n < length new) (is : slice_get new n ≡ Some name). sym (s.last (omega arith)) ∙ ap (slice_get new) (sym same) ∙ is in
    by_same j i
    (λ e. by_same k i (λ f. e ∙ sym f) (λ f. absurd (let u = apart (length old - 1) k name (end j e lt a) (at k f gt b) in omega arith)))
    (λ e. by_same k i (λ f. absurd (let u = apart j (length old - 1) name (at j e lt a) (end k f gt b) in omega arith)) (λ f. apart j k name (at j e lt a) (at k f gt b)))

module _ (es fs : Pairs) (i : ℕ) (k : List ℕ) (v : Option Node) (s : IsSwapped es fs i) (inside : i < length es) (there : slice_get es i ≡ Some (k, v)) (apart : Apart es) where
  pub swapped_to : Keeps es fs k
  swapped_to j q w other is = goes_to es fs i s inside j (q, w) (λ e. other (sym (same_key (k, v) (q, w) (sym there ∙ ap (slice_get es) (sym e) ∙ is)))) is

  pub swapped_back : Keeps fs es k
  swapped_back j q w other is = let from = came_from es fs i s inside j (q, w) is in (from.0, from.2)

  pub swapped_gone : (j : ℕ) (w : Option Node) → slice_get fs j ≡ Some (k, w) → ⊥
  swapped_gone j w is = let from = came_from es fs i s inside j (k, w) is in from.1 (apart from.0 i k w v from.2 there)

-- by what `swap_remove` of a list says of its places
pub swapped_by : {X : Type 0} (old new : List X) (i : ℕ) (d : X) → length new + 1 ≡ length old → (i + 1 < length old → get_or new i d ≡ get_or old (length old - 1) d)
    → ((k : ℕ) → k ≢ i → k + 1 < length old → get_or new k d ≡ get_or old k d) → i < length old → IsSwapped old new i
swapped_by old new i d short last others inside = record {
  shorter = short;
  last = λ lt. slice_get-get_or new i d (omega arith) ∙ ap (λ x. Some x) (last lt) ∙ sym (slice_get-get_or old (length old - 1) d (omega arith));
  others = λ k other lt. slice_get-get_or new k d (omega arith) ∙ ap (λ x. Some x) (others k other lt) ∙ sym (slice_get-get_or old k d (omega arith));
}

-- the pair at a place of which the name is known
pub pair_at : (places : List Place) (i : ℕ) (d : Place) (q : List ℕ) → slice_get (names_in places) i ≡ Some q → slice_get (pairs_in places) i ≡ Some (q, (get_or places i d).child)
pair_at [] i d q is = absurd (cc)
pair_at (x ∷ places) zero d q is = let e : x.name ≡ q = cc in (λ i. Some (e i, x.child))
pair_at (x ∷ places) (suc i) d q is = pair_at places i d q is

-- the places with another child at one of them
abbrev pub with_child : List Place → ℕ → Place → Option Node → List Place
with_child places i d child = set places i (record { name = (get_or places i d).name; child = child })

pub names-with_child : (places : List Place) (i : ℕ) (d : Place) (child : Option Node) → names_in (with_child places i d child) ≡ names_in places
names-with_child [] i d child = refl
names-with_child (x ∷ places) zero d child = refl
names-with_child (x ∷ places) (suc i) d child = ap (λ names. x.name ∷ names) (names-with_child places i d child)

pub pairs-with_child : (places : List Place) (i : ℕ) (d : Place) (q : List ℕ) (child : Option Node) → slice_get (names_in places) i ≡ Some q → pairs_in (with_child places i d child) ≡ set (pairs_in places) i (q, child)
pairs-with_child [] i d q child is = refl
pairs-with_child (x ∷ places) zero d q child is = let e : x.name ≡ q = cc in ap (λ n. (n, child) ∷ pairs_in places) e
pairs-with_child (x ∷ places) (suc i) d q child is = ap (λ pairs. pair x ∷ pairs) (pairs-with_child places i d q child is)

pub pairs-append : (places more : List Place) → pairs_in (places ++ more) ≡ pairs_in places ++ pairs_in more
pairs-append [] more = refl
pairs-append (x ∷ places) more = ap (λ pairs. pair x ∷ pairs) (pairs-append places more)

module _ (places : List Place) (m : Entries) (seen : entries_in places ≡ m) (apart : AreApart (names_in places)) (q : List ℕ) where
  pub was_there : (i : ℕ) (d : Place) → slice_get (names_in places) i ≡ Some q → get m q ≡ Some (get_or places i d).child
  was_there i d is = get_there (pairs_in places) m i q (get_or places i d).child seen (pairs_apart places apart) (pair_at places i d q is)

  pub was_not : IsFoundAt (names_in places) q None → get m q ≡ None
  was_not none = get_none (pairs_in places) m q seen (no_pair places q none)

  -- a child was set
  pub map-set : (i : ℕ) (d : Place) (child : Option Node) → slice_get (names_in places) i ≡ Some q → entries_in (with_child places i d child) ≡ insert m q child
  map-set i d child is =
      let fs = pairs_in (with_child places i d child) in
      let es = pairs_in places in
      let is_set = pairs-with_child places i d q child is in
      let there = pair_at places i d q is in
      let was = (get_or places i d).child in
      let new : Apart fs = pairs_apart (with_child places i d child) (subst AreApart (sym (names-with_child places i d child)) apart) in
      map-put es fs m q seen (pairs_apart places apart) new
      (subst (λ (xs : Pairs). Keeps es xs q) (sym is_set) (set_to es q child i was there))
      (subst (λ (xs : Pairs). Keeps xs es q) (sym is_set) (set_back es q child i was there))
      i child (ap (λ (xs : Pairs). slice_get xs i) is_set ∙ seat-set_here es i (q, child) (seat-within es i (q, was) there))

  -- a place was added
  pub map-push : (child : Option Node) → IsFoundAt (names_in places) q None → entries_in (places ++ (record { name = q; child = child }) ∷ []) ≡ insert m q child
  map-push child none =
      let place : Place = record { name = q; child = child } in
      let es = pairs_in places in
      let fs = pairs_in (places ++ place ∷ []) in
      let is = pairs-append places (place ∷ []) in
      let new : Apart fs = pairs_apart (places ++ place ∷ []) (subst AreApart (sym (names-append places (place ∷ []))) (apart_more (names_in places) q apart none)) in
      map-put es fs m q seen (pairs_apart places apart) new
      (subst (λ (xs : Pairs). Keeps es xs q) (sym is) (push_to es q child))
      (subst (λ (xs : Pairs). Keeps xs es q) (sym is) (push_back es q child))
      (length es) child (ap (λ (xs : Pairs). slice_get xs (length es)) is ∙ seat-push_end es (q, child))

  -- a place was taken out
  pub map-swapped : (new : List Place) (i : ℕ) → slice_get (names_in places) i ≡ Some q → IsSwapped places new i → entries_in new ≡ remove m q
  map-swapped new i is s =
      let es = pairs_in places in
      let fs = pairs_in new in
      let there = name_pair places i q is in
      let p = swapped-map pair places new i s in
      let n = swapped-map (λ (p : Place). p.name) places new i s in
      let inside = seat-within es i (q, there.0) there.1 in
      let apart_new : AreApart (names_in new) = apart_less (names_in places) (names_in new) i n (seat-within (names_in places) i q is) apart in
      map-gone es fs m q seen (pairs_apart places apart) (pairs_apart new apart_new)
      (swapped_to es fs i q there.0 p inside there.1 (pairs_apart places apart))
      (swapped_back es fs i q there.0 p inside there.1 (pairs_apart places apart))
      (swapped_gone es fs i q there.0 p inside there.1 (pairs_apart places apart))

-- a place without a name, which no list need have
abbrev pub no_place : Place
no_place = record { name = []; child = None }

pub length_swapped : {X : Type 0} (old new : List X) (i : ℕ) (d : X) → i < length old → new ≡ swap_remove old i d → length new + 1 ≡ length old
length_swapped old new i d inside is =
    let n = length-take (length old - 1) (set old i (get_or old (length old - 1) d)) in
    let m = length-set old i (get_or old (length old - 1) d) in
    let e = ap length is in omega arith

-- to take out a name without a place changes nothing
pub remove_absent : (m : Entries) (q : List ℕ) → get m q ≡ None → m ≡ remove m q
remove_absent m q none = same_map nat_list_cmp_total exact_bytes _ _ (λ k. sym (get-remove nat_list_cmp_total m q k ∙ by_test (eq_by_cmp (slice_cmp nat_cmp) k q)
    (λ t. ap (λ b. cond b None (get m k)) t ∙ sym none ∙ ap (get m) (sym (alike k q t)))
    (λ t. ap (λ b. cond b None (get m k)) t)))
