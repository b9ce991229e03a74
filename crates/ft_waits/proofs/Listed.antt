-- The entries of a map by transactions, as a list.
use Rattle.std.proofs.Common.{◌≡◌, ◌≢◌, ℕ, Bool, true, false, cond, List, [], ◌∷◌, Some, Contains, map, nat_cmp, Ordering, refl, sym, ap, ◌∙◌}
use Rattle.std.specs.Prelude.{T, ◌&&◌}
use Rattle.std.specs.declared.cmp.Ordering.TheVariants.{Less, Equal, Greater}
use Rattle.std.specs.Ordering.{is_lt, eq_by_cmp}
use Rattle.std.specs.Cmp.{nat_cmp_is, nat_cmp_total, unsigned_tied}
use Rattle.std.specs.List.{AllByRecursion}
use Rattle.std.specs.List.Sorted.{IsStrictlySortedBy, IsStrictlyIncreasing}
use Rattle.std.specs.Map.{lookup}
use Rattle.std.specs.FinMap as finite
use Rattle.std.specs.FinMap.Entries.{below_all}
use Rattle.std.proofs.lemmas.Cmp.{eq_by_cmp_equiv}
use Rattle.std.proofs.lemmas.Map.Keys.{IsStrictlyIncreasing-from_sorted, IsDistinct-from_sorted}
use Rattle.std.proofs.lemmas.Map.Views.{lookup-from_Contains, Contains-from_lookup, Contains-from_any, list_any-from_Contains, exact_unsigned_eq}
use Rattle.ft_laws.specs.Lists.{Each, Pairs}
use Rattle.ft_waits.specs.Waits.{txns_of}
use Rattle.ft_waits.specs.Walk.{Ranks}

first_of : (a b : Bool) → T (a && b) → T a
first_of true b h = tt
first_of false b h = h

second_of : (a b : Bool) → T (a && b) → T b
second_of true b h = h
second_of false b h = absurd h

lesser : (r : Ordering) → T (is_lt r) → r ≡ Less
lesser Less h = refl
lesser Equal h = absurd h
lesser Greater h = absurd h

tied_same : (x y : ℕ) → eq_by_cmp nat_cmp x y ≡ true → x ≡ y
tied_same x y tied = exact_unsigned_eq x y (sym (unsigned_tied x y) ∙ tied)

above : {V : Type 0} (x : ℕ) (es : List (ℕ × V)) → T (below_all nat_cmp x es) → AllByRecursion (λ y. nat_cmp x y ≡ Less) (map (λ e. e.0) es)
above x [] h = tt
above x (e ∷ es) h = (lesser (nat_cmp x e.0) (first_of (is_lt (nat_cmp x e.0)) (below_all nat_cmp x es) h), above x es (second_of (is_lt (nat_cmp x e.0)) (below_all nat_cmp x es) h))

in_order : {V : Type 0} (es : List (ℕ × V)) → T (finite.is_sorted nat_cmp es) → IsStrictlySortedBy nat_cmp (map (λ e. e.0) es)
unfolding IsStrictlySortedBy
in_order [] h = tt
in_order (e ∷ es) h = (above e.0 es (first_of (below_all nat_cmp e.0 es) (finite.is_sorted nat_cmp es) h), in_order es (second_of (below_all nat_cmp e.0 es) (finite.is_sorted nat_cmp es) h))

-- the keys differ
differ : (x y : ℕ) → nat_cmp x y ≡ Less → x ≢ y
differ x y less same = let equal = nat_cmp_is x y Equal same in cc

differ_above : {V : Type 0} (x : ℕ) (es : List (ℕ × V)) → T (below_all nat_cmp x es) → Each (λ e. x ≢ e.0) es
differ_above x [] h = tt
differ_above x (e ∷ es) h = (differ x e.0 (lesser (nat_cmp x e.0) (first_of (is_lt (nat_cmp x e.0)) (below_all nat_cmp x es) h)), differ_above x es (second_of (is_lt (nat_cmp x e.0)) (below_all nat_cmp x es) h))

apart : {V : Type 0} (es : List (ℕ × V)) → T (finite.is_sorted nat_cmp es) → Pairs (λ d e. d.0 ≢ e.0) es
apart [] h = tt
apart (e ∷ es) h = (differ_above e.0 es (first_of (below_all nat_cmp e.0 es) (finite.is_sorted nat_cmp es) h), apart es (second_of (below_all nat_cmp e.0 es) (finite.is_sorted nat_cmp es) h))

find-lookup : {V : Type 0} (q : ℕ) (es : List (ℕ × V)) → finite.find nat_cmp q es ≡ lookup (eq_by_cmp nat_cmp q) es
find-lookup q [] = refl
find-lookup q (e ∷ es) = ap (λ o. cond (eq_by_cmp nat_cmp q e.0) (Some e.1) o) (find-lookup q es)

module _ {V : Type 0} (m : finite.FinMap nat_cmp V) where
  entries_in_order : IsStrictlySortedBy nat_cmp (map (λ e. e.0) (finite.entries m))
  entries_in_order = in_order (finite.entries m) (finite.entries_sorted m)

  pub entries_apart : Pairs (λ d e. d.0 ≢ e.0) (finite.entries m)
  entries_apart = apart (finite.entries m) (finite.entries_sorted m)

  get-lookup : (txn : ℕ) → finite.get m txn ≡ lookup (eq_by_cmp nat_cmp txn) (finite.entries m)
  get-lookup txn = finite.get-entries m txn ∙ find-lookup txn (finite.entries m)

  pub get-listed : (txn : ℕ) (value : V) → Contains (finite.entries m) (txn, value) → finite.get m txn ≡ Some value
  get-listed txn value among = get-lookup txn ∙ lookup-from_Contains (eq_by_cmp_equiv nat_cmp_total) txn value (finite.entries m) (IsDistinct-from_sorted nat_cmp (map (λ e. e.0) (finite.entries m)) entries_in_order) among

  pub listed-get : (txn : ℕ) (value : V) → finite.get m txn ≡ Some value → Contains (finite.entries m) (txn, value)
  listed-get txn value some = Contains-from_lookup tied_same txn value (finite.entries m) (sym (get-lookup txn) ∙ some)

module _ (ranks : Ranks) where
  pub entries-rising : IsStrictlyIncreasing (txns_of (finite.entries ranks))
  entries-rising = IsStrictlyIncreasing-from_sorted (txns_of (finite.entries ranks)) (entries_in_order ranks)

  pub txn-listed : (txn : ℕ) → finite.contains_key ranks txn ≡ true → Contains (txns_of (finite.entries ranks)) txn
  txn-listed txn there = Contains-from_any tied_same txn (txns_of (finite.entries ranks)) (sym (finite.contains_key-keys ranks txn) ∙ there)

  pub listed-txn : (txn : ℕ) → Contains (txns_of (finite.entries ranks)) txn → finite.contains_key ranks txn ≡ true
  listed-txn txn among = finite.contains_key-keys ranks txn ∙ list_any-from_Contains (eq_by_cmp_equiv nat_cmp_total) txn (txns_of (finite.entries ranks)) among
