-- The places of a directory in the order of their names.
use Rattle.std.proofs.Common.{◌≡◌, ◌≢◌, ◌<◌, ◌≤◌, ◌+◌, ◌&&◌, ◌↔◌, IsTrue, is_none, ℕ, zero, suc, List, [], ◌∷◌, ◌++◌, take, Option, Some, None, Bool, true, false, map, length, get_or, refl, sym, ap, subst, arith, ◌∙◌, Ordering}
use Rattle.std.proofs.lemmas.Bool.{false≢true}
use Rattle.std.proofs.lemmas.Option.{slice_get-map, slice_get-get_or, get_or_from_slice_get}
use Rattle.std.proofs.lemmas.List.{length-map, map-append, take_more}
use Rattle.std.proofs.lemmas.List.Elements.{filter_map-append}
use Rattle.std.proofs.lemmas.List.Sorted.{Contains-permutation, IsPermutation-map, IsPermutation-sym}
use Rattle.std.proofs.lemmas.Map.Keys.{IsDistinct-from_apart, apart_from_distinct, IsDistinct-IsPermutation, IsDistinct-from_sorted, sorted_from_all_adjacent}
use Rattle.std.proofs.lemmas.Map.Lookups.{exact_bytes}
use Rattle.std.proofs.lemmas.Map.Views.{tells_apart}
use Rattle.std.specs.Prelude.{T, slice_get, option_map}
use Rattle.std.specs.declared.cmp.Ordering.TheVariants.{Less, Equal, Greater}
use Rattle.std.specs.Ordering.{nat_cmp, is_lt, is_eq, eq_by_cmp, ordering_reverse}
use Rattle.std.specs.Cmp.{eq_by_cmp_equiv}
use Rattle.std.specs.Cmp.Lexicographic.{slice_cmp, nat_list_cmp_total}
use Rattle.std.specs.Borrow.{Bor}
use Rattle.std.specs.List.{Contains, IsDistinct, AllByRecursion, filter_map, list_all}
use Rattle.std.specs.List.Sorted.{IsPermutation, IsStrictlySortedBy, IsSortedBy}
use Rattle.std.specs.Map.{keys_of}
use Rattle.std.specs.FinMap.{find, get, entries, entries_sorted, get-entries, from_entries, get-from_entries, same_map, is_sorted}
use Rattle.std.specs.FinMap.Entries.{below_all}
use Rattle.ft_cells.specs.declared.node.Node.{Node}
use Rattle.ft_cells.specs.Cells.{filled}
use Rattle.ft_cells.specs.Nodes.{with_kinds, kind_of_node}
use Rattle.ft_cells.specs.Rows.{named_rows}
use Rattle.ft_cells.specs.Entries.{entry_at}
use Rattle.ft_cells.specs.declared.row.TreeRow.TheVariants.{Edge as EdgeRow}
use Rattle.ft_cells.proofs.InOrder.{entries-view}
use Rattle.ft_inodes.specs.declared.place.Place.{Place}
use Rattle.ft_inodes.specs.Named.{Entries, pair, pairs_in, entries_in, names_in, shown, is_before, AreApart}
use Rattle.ft_inodes.proofs.Seats.{by_test, by_order, by_same, seat-within, seat-there}
use Rattle.ft_inodes.proofs.Mapped.{Pairs, Apart, found, has_found, by_value, get_is, pairs_apart, alike, reflexive}

abbrev same_name : List ℕ → List ℕ → Bool
same_name = eq_by_cmp (slice_cmp nat_cmp)

key_seat : (es : Pairs) (i : ℕ) (e : List ℕ × Option Node) (d : List ℕ) → slice_get es i ≡ Some e → get_or (keys_of es) i d ≡ e.0
key_seat es i e d is = get_or_from_slice_get (keys_of es) i e.0 d (slice_get-map (λ (x : List ℕ × Option Node). x.0) es i ∙ ap (option_map (λ (x : List ℕ × Option Node). x.0)) is)

keys-length : (es : Pairs) → length (keys_of es) ≡ length es
keys-length es = length-map es (λ (x : List ℕ × Option Node). x.0)

-- keys of which none stands twice differ, and the other way round
distinct : (es : Pairs) → Apart es → IsDistinct same_name (keys_of es)
distinct es apart = IsDistinct-from_apart same_name (keys_of es) (λ i j d low high.
    let long = keys-length es in
    let a = seat-there es i (omega arith) in
    let b = seat-there es j (omega arith) in
    by_test (same_name (get_or (keys_of es) i d) (get_or (keys_of es) j d))
    (λ t. absurd (
    let same : a.0.0 ≡ b.0.0 = sym (key_seat es i a.0 d a.1) ∙ alike (get_or (keys_of es) i d) (get_or (keys_of es) j d) t ∙ key_seat es j b.0 d b.1 in
    let u = apart i j b.0.0 a.0.1 b.0.1 (a.1 ∙ ap (λ n. Some (n, a.0.1)) same) b.1 in omega arith))
    (λ t. t))

pub apart-distinct : (es : Pairs) → IsDistinct same_name (keys_of es) → Apart es
apart-distinct es differ i j q v w a b =
    let long = keys-length es in
    let p = seat-within es i (q, v) a in
    let r = seat-within es j (q, w) b in
    let tied = λ (m n : ℕ) (x y : Option Node) (at : slice_get es m ≡ Some (q, x)) (bt : slice_get es n ≡ Some (q, y)) (lt : m < n) (le : n < length (keys_of es)).
    false≢true (sym (apart_from_distinct same_name (keys_of es) m n q differ lt le) ∙ (λ i. same_name (key_seat es m (q, x) q at i) (key_seat es n (q, y) q bt i)) ∙ reflexive q) in
    by_order i j
    (λ le. by_same i j (λ same. same) (λ other. absurd (tied i j v w a b (omega arith) (omega arith))))
    (λ lt. absurd (tied j i w v b a lt (omega arith)))

-- what stands at a key stands there in any order
moved : (es fs : Pairs) → IsPermutation es fs → Apart fs → (q : List ℕ) (v : Option Node) → find (slice_cmp nat_cmp) q es ≡ Some v → find (slice_cmp nat_cmp) q fs ≡ Some v
moved es fs same apart q v is =
    let at = found es q v is in
    let lt = seat-within es at.0 (q, v) at.1 in
    let there = Contains-permutation es fs (q, v) same (at.0, lt, get_or_from_slice_get es at.0 (q, v) (q, v) at.1) in
    has_found fs there.0 q v apart (slice_get-get_or fs there.0 (q, v) there.1 ∙ ap (λ e. Some e) there.2)

still : (es fs : Pairs) → IsPermutation es fs → Apart es → Apart fs
still es fs same apart = apart-distinct fs (IsDistinct-IsPermutation same_name (eq_by_cmp_equiv nat_list_cmp_total).symm (keys_of es) (keys_of fs) (IsPermutation-map (λ e. e.0) es fs same) (distinct es apart))

same_entries : (es fs : Pairs) → IsPermutation es fs → Apart es → from_entries {R = slice_cmp nat_cmp} fs ≡ from_entries es
same_entries es fs same apart = same_map nat_list_cmp_total exact_bytes _ _ (λ q.
    get-from_entries nat_list_cmp_total fs q
    ∙ by_value (find (slice_cmp nat_cmp) q fs) (find (slice_cmp nat_cmp) q es) (moved fs es (IsPermutation-sym es fs same) apart q) (moved es fs same (still es fs same apart) q)
    ∙ sym (get-from_entries nat_list_cmp_total es q))

less_left : (a b : List ℕ) → is_lt (slice_cmp nat_cmp b a) ≡ false → same_name a b ≡ false → slice_cmp nat_cmp a b ≡ Less
less_left a b below other = by_cases (slice_cmp nat_cmp a b) refl
  where
    by_cases : (r : Ordering) → slice_cmp nat_cmp a b ≡ r → r ≡ Less
    by_cases Less e = refl
    by_cases Equal e = absurd (false≢true (sym other ∙ ap is_eq e))
    by_cases Greater e = absurd (false≢true (sym below ∙ ap is_lt (nat_list_cmp_total.antisymm b a ∙ ap ordering_reverse e)))

-- places that do not fall by their names
module _ (items : List (Bor Place)) (apart : Apart (shown items)) (rising : IsSortedBy is_before items) where
  name_of : (k : ℕ) (x : Bor Place) (d : List ℕ) → k < length items → get_or (keys_of (shown items)) k d ≡ (get_or items k x).now.name
  name_of k x d lt = key_seat (shown items) k (pair (get_or items k x).now) d (slice_get-map (λ (p : Bor Place). pair p.now) items k ∙ ap (option_map (λ (p : Bor Place). pair p.now)) (slice_get-get_or items k x lt))

  strict : IsStrictlySortedBy (slice_cmp nat_cmp) (keys_of (shown items))
  strict = sorted_from_all_adjacent nat_list_cmp_total (keys_of (shown items)) [] (λ k lt.
      let long : length (keys_of (shown items)) ≡ length items = keys-length (shown items) ∙ length-map items (λ (p : Bor Place). pair p.now) in
      let x = seat-there items k (omega arith) in
      let below = rising k x.0 (omega arith) (omega arith) in
      let a = name_of k x.0 [] (omega arith) in
      let b = name_of (k + 1) x.0 [] (omega arith) in
      let other = apart_from_distinct same_name (keys_of (shown items)) k (k + 1) [] (distinct (shown items) apart) (omega arith) lt in
      less_left (get_or (keys_of (shown items)) k []) (get_or (keys_of (shown items)) (k + 1) []) ((λ i. is_lt (slice_cmp nat_cmp (b i) (a i))) ∙ below) other)

-- places sorted by their names are the entries of their map
pub sorted-seen : (places : List Place) (m : Entries) (items sorted : List (Bor Place)) → entries_in places ≡ m → AreApart (names_in places) → shown items ≡ pairs_in places → IsPermutation items sorted → IsSortedBy is_before sorted → shown sorted ≡ entries m
sorted-seen places m items sorted seen apart all same rising =
    let es = pairs_in places in
    let moves : IsPermutation es (shown sorted) = subst (λ xs. IsPermutation xs (shown sorted)) all (IsPermutation-map (λ (p : Bor Place). pair p.now) items sorted same) in
    let old = pairs_apart places apart in
    sym (entries-view (slice_cmp nat_cmp) nat_list_cmp_total exact_bytes (shown sorted) (strict sorted (still es (shown sorted) moves old) rising))
    ∙ ap entries (same_entries es (shown sorted) moves old ∙ seen)

both_first : (a b : Bool) → T (a && b) → T a
both_first true b p = tt
both_first false b p = p

both_second : (a b : Bool) → T (a && b) → T b
both_second true b p = p
both_second false b p = absurd p

less : (r : Ordering) → T (is_lt r) → r ≡ Less
less Less p = refl
less Equal p = absurd p
less Greater p = absurd p

above_each : (k : List ℕ) (es : Pairs) → T (below_all (slice_cmp nat_cmp) k es) → AllByRecursion (λ y. slice_cmp nat_cmp k y ≡ Less) (keys_of es)
above_each k [] h = tt
above_each k (e ∷ es) h = (less _ (both_first _ _ h), above_each k es (both_second _ _ h))

rise : (es : Pairs) → T (is_sorted (slice_cmp nat_cmp) es) → IsStrictlySortedBy (slice_cmp nat_cmp) (keys_of es)
unfolding IsStrictlySortedBy
rise [] h = tt
rise (e ∷ es) h = (above_each e.0 es (both_first _ _ h), rise es (both_second _ _ h))

entries_apart : (m : Entries) → Apart (entries m)
entries_apart m = apart-distinct (entries m) (IsDistinct-from_sorted (slice_cmp nat_cmp) (keys_of (entries m)) (rise (entries m) (entries_sorted m)))

-- nothing stands in any of these places
abbrev pub AreBlank : Pairs → Type 0
AreBlank es = (i : ℕ) (q : List ℕ) (v : Option Node) → slice_get es i ≡ Some (q, v) → v ≡ None

blank_names : (es : Pairs) → AreBlank es → filter_map filled es ≡ []
blank_names [] blank = refl
blank_names ((name, None) ∷ es) blank = blank_names es (λ i. blank (suc i))
blank_names ((name, Some x) ∷ es) blank = absurd (let no : Some x ≡ None = blank 0 name (Some x) refl in cc)

names_blank : (es : Pairs) → filter_map filled es ≡ [] → AreBlank es
names_blank [] none i q v is = absurd (cc)
names_blank ((name, None) ∷ es) none zero q v is = let e : (name, None) ≡ (q, v) = cc in sym (ap (λ (x : List ℕ × Option Node). x.1) e)
names_blank ((name, None) ∷ es) none (suc i) q v is = names_blank es none i q v is
names_blank ((name, Some x) ∷ es) none i q v is = absurd (let no : (name, x) ∷ filter_map filled es ≡ [] = none in cc)

none_left : (o : Option Node) → is_none o ≡ true → o ≡ None
none_left None e = refl
none_left (Some x) e = absurd (false≢true e)

left_none : (o : Option Node) → o ≡ None → is_none o ≡ true
left_none o e = ap (λ o. is_none o) e

and_true : (a b : Bool) → a ≡ true → b ≡ true → (a && b) ≡ true
and_true true b p q = q
and_true false b p q = p

true_first : (a b : Bool) → (a && b) ≡ true → a ≡ true
true_first true b e = refl
true_first false b e = e

true_second : (a b : Bool) → (a && b) ≡ true → b ≡ true
true_second true b e = e
true_second false b e = absurd (false≢true e)

all_blank : (places : List Place) → IsTrue (list_all (λ place. is_none place.child) places) → AreBlank (pairs_in places)
all_blank [] h i q v is = absurd (cc)
all_blank (p ∷ places) h zero q v is =
    let e : pair p ≡ (q, v) = cc in
    sym (ap (λ (x : List ℕ × Option Node). x.1) e) ∙ none_left p.child (true_first (is_none p.child) (list_all (λ place. is_none place.child) places) h)
all_blank (p ∷ places) h (suc i) q v is = all_blank places (true_second (is_none p.child) (list_all (λ place. is_none place.child) places) h) i q v is

blank_all : (places : List Place) → AreBlank (pairs_in places) → IsTrue (list_all (λ place. is_none place.child) places)
blank_all [] blank = refl
blank_all (p ∷ places) blank = and_true (is_none p.child) (list_all (λ place. is_none place.child) places) (left_none p.child (blank 0 p.name p.child refl)) (blank_all places (λ i. blank (suc i)))

-- where nothing stands in any place, no name is an entry
pub no_name_in : (places : List Place) (m : Entries) → entries_in places ≡ m → AreApart (names_in places) → IsTrue (list_all (λ place. is_none place.child) places) ↔ (filter_map filled (entries m) ≡ [])
no_name_in places m seen apart =
    let es = pairs_in places in
    let old = pairs_apart places apart in (
      λ all. blank_names (entries m) (λ i q v is.
          let got : get m q ≡ Some v = get-entries m q ∙ has_found (entries m) i q v (entries_apart m) is in
          let at = found es q v (get_is es m q seen ∙ got) in all_blank places all at.0 q v at.1),
      λ none. blank_all places (λ i q v is.
          let got : get m q ≡ Some v = sym (get_is es m q seen) ∙ has_found es i q v old is in
          let at = found (entries m) q v (sym (get-entries m q) ∙ got) in names_blank (entries m) none at.0 q v at.1),
    )

-- the entry of a place, if something stands there
abbrev pub entry_in : List ℕ → Option Node → List (List ℕ × Node)
entry_in name None = []
entry_in name (Some x) = (name, x) ∷ []

filled_one : (p : List ℕ × Option Node) → filter_map filled (p ∷ []) ≡ entry_in p.0 p.1
filled_one (name, None) = refl
filled_one (name, Some x) = refl

-- the entries of one place more
pub entries_more : (places : List (Bor Place)) (i : ℕ) (here : Bor Place) (child : Option Node) → i < length places → here ≡ get_or places i here → here.now.child ≡ child
    → filter_map filled (shown (take (i + 1) places)) ≡ filter_map filled (shown (take i places)) ++ entry_in here.now.name child
entries_more places i here child lt is stands =
    ap (λ ps. filter_map filled (shown ps)) (take_more places i here lt ∙ ap (λ (p : Bor Place). take i places ++ p ∷ []) (sym is))
    ∙ ap (filter_map filled) (map-append (λ (p : Bor Place). pair p.now) (take i places) (here ∷ []))
    ∙ filter_map-append filled (shown (take i places)) (pair here.now ∷ [])
    ∙ ap (λ more. filter_map filled (shown (take i places)) ++ more) (filled_one (pair here.now) ∙ ap (entry_in here.now.name) stands)

nothing_more : (es : List (List ℕ × Node)) → es ++ [] ≡ es
nothing_more [] = refl
nothing_more (e ∷ es) = ap (λ rest. e ∷ rest) (nothing_more es)

pub entries_none : (places : List (Bor Place)) (i : ℕ) (here : Bor Place) → i < length places → here ≡ get_or places i here → here.now.child ≡ None
    → filter_map filled (shown (take (i + 1) places)) ≡ filter_map filled (shown (take i places))
entries_none places i here lt is none = entries_more places i here None lt is none ∙ nothing_more (filter_map filled (shown (take i places)))

pub kinds_more : (es : List (List ℕ × Node)) (name : List ℕ) (x : Node) → with_kinds (es ++ (name, x) ∷ []) ≡ with_kinds es ++ (name, kind_of_node x) ∷ []
kinds_more [] name x = refl
kinds_more (e ∷ es) name x = ap (λ rest. (e.0, kind_of_node e.1) ∷ rest) (kinds_more es name x)

pub rows_more : (dir : ℕ) (es : List (List ℕ × Node)) (name : List ℕ) (x : Node) → named_rows dir (es ++ (name, x) ∷ []) ≡ named_rows dir es ++ EdgeRow (entry_at dir name) x ∷ []
rows_more dir [] name x = refl
rows_more dir (e ∷ es) name x = ap (λ rest. EdgeRow (entry_at dir e.0) e.1 ∷ rest) (rows_more dir es name x)
