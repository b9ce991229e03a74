-- Places in their order, with their numbers: the next that has a value, through groups.
use Rattle.std.proofs.Common.{◌≡◌, ◌≤◌, ◌<◌, ◌+◌, ◌*◌, ℕ, zero, suc, List, [], ◌∷◌, ◌++◌, length, Option, Some, None, Bool, true, false, get_or, replicate, drop, arith, refl, sym, ap, ◌∙◌, append-nil}
use Rattle.std.specs.Prelude.{T, ◌&&◌}
use Rattle.std.proofs.Math.Nat.{mul-suc, mul-zero}
use Rattle.std.proofs.lemmas.List.{drop-append-le}
use Rattle.std.proofs.Math.Seq.{drop-append-add, drop-append_seam, drop-nil}
use Rattle.std.specs.Ordering.{nat_cmp, is_lt}
use Rattle.std.specs.declared.cmp.Ordering.{Ordering}
use Rattle.std.specs.declared.cmp.Ordering.TheVariants.{Less, Equal, Greater}
use Rattle.std.specs.Ordering.{MatchOrdering}
use Rattle.std.specs.Cmp.{nat_cmp_total, ranks}
use Rattle.std.specs.FinMap.{entries, len, len-entries, from_sorted, entries-from_sorted, get-from_sorted, get-from_entries, is_sorted, from_entries, same_map, nat_cmp-IsAntisymmetric}
use Rattle.std.specs.FinMap.Entries.{below_all}
use Rattle.ft_paged.specs.Paged.{numbered, dense, valued, joined_places, HaveLen, IsFirstFrom}

both : (a b : Bool) → T a → T b → T (a && b)
both true b p q = q
both false b p q = p

less : (a b : ℕ) → a < b → T (is_lt (nat_cmp a b))
less a b lt = by_order (nat_cmp a b) (ranks a b)
  where
    by_order : (r : Ordering) → MatchOrdering r (a < b) (a ≡ b) (b < a) → T (is_lt r)
    by_order Less h = tt
    by_order Equal h = absurd (omega arith)
    by_order Greater h = absurd (omega arith)

module _ {V : Type 0} where
  -- Numbers of places.

  -- what one place gives
  abbrev onto : Option V → ℕ → List (ℕ × V) → List (ℕ × V)
  onto None k rest = rest
  onto (Some v) k rest = (k, v) ∷ rest

  one-more : (xs : List (Option V)) (i k : ℕ) → i < length xs → numbered k (drop i xs) ≡ onto (get_or xs i None) k (numbered (suc k) (drop (suc i) xs))
  one-more [] i k within = absurd (omega arith)
  one-more (None ∷ xs) zero k within = refl
  one-more (Some v ∷ xs) zero k within = refl
  one-more (x ∷ xs) (suc i) k within = one-more xs i k (omega arith)

  counted-on : (xs : List (Option V)) (i k m j : ℕ) → k + 1 ≡ m → i + 1 ≡ j → numbered (suc k) (drop (suc i) xs) ≡ numbered m (drop j xs)
  counted-on xs i k m j is at = let number : suc k ≡ m = omega arith in let place : suc i ≡ j = omega arith in
      ap (λ n. numbered n (drop (suc i) xs)) number ∙ ap (λ n. numbered m (drop n xs)) place

  -- a place without a value, and one with a value
  pub skips : (xs : List (Option V)) (i k m : ℕ) → i < length xs → get_or xs i None ≡ None → k + 1 ≡ m → numbered k (drop i xs) ≡ numbered m (drop (i + 1) xs)
  skips xs i k m within none is = one-more xs i k within ∙ ap (λ o. onto o k (numbered (suc k) (drop (suc i) xs))) none ∙ counted-on xs i k m (i + 1) is refl

  pub finds : (xs : List (Option V)) (i k : ℕ) (v : V) → i < length xs → get_or xs i None ≡ Some v → numbered k (drop i xs) ≡ (k, v) ∷ numbered (k + 1) (drop (i + 1) xs)
  finds xs i k v within some = one-more xs i k within ∙ ap (λ o. onto o k (numbered (suc k) (drop (suc i) xs))) some ∙ ap (λ rest. (k, v) ∷ rest) (counted-on xs i k (k + 1) (i + 1) refl refl)

  numbered-none : (k n : ℕ) → numbered {V = V} k (replicate n None) ≡ []
  numbered-none k zero = refl
  numbered-none k (suc n) = numbered-none (suc k) n

  numbered-none-left : (k i n : ℕ) → numbered {V = V} k (drop i (replicate n None)) ≡ []
  numbered-none-left k zero n = numbered-none k n
  numbered-none-left k (suc i) zero = refl
  numbered-none-left k (suc i) (suc n) = numbered-none-left k i n

  -- behind the places that may have values
  pub none-behind : (xs : List (Option V)) (n i k : ℕ) → length xs ≤ i → numbered k (drop i (xs ++ replicate n None)) ≡ []
  none-behind [] n i k past = numbered-none-left k i n
  none-behind (x ∷ xs) n zero k past = absurd (omega arith)
  none-behind (x ∷ xs) n (suc i) k past = none-behind xs n i k (omega arith)

  numbered-append : (k : ℕ) (xs ys : List (Option V)) → numbered k (xs ++ ys) ≡ numbered k xs ++ numbered (k + length xs) ys
  numbered-append k [] ys = ap (λ n. numbered n ys) (omega arith)
  numbered-append k (None ∷ xs) ys = numbered-append (suc k) xs ys ∙ ap (λ n. numbered (suc k) xs ++ numbered n ys) (omega arith)
  numbered-append k (Some v ∷ xs) ys = ap (λ es. (k, v) ∷ es) (numbered-append (suc k) xs ys ∙ ap (λ n. numbered (suc k) xs ++ numbered n ys) (omega arith))

  count-numbered : (k : ℕ) (xs : List (Option V)) → length (numbered k xs) ≡ valued xs
  count-numbered k [] = refl
  count-numbered k (None ∷ xs) = count-numbered (suc k) xs
  count-numbered k (Some v ∷ xs) = ap suc (count-numbered (suc k) xs)

  -- Through groups.

  -- what is left of the places from one of a group on: those left of the group, and the groups behind it
  left-of : (len : ℕ) (ps : List (List (Option V))) (i j : ℕ) → HaveLen len ps → i < length ps → j ≤ len
      → drop (len * i + j) (joined_places ps) ≡ drop j (get_or ps i []) ++ drop (len * (i + 1)) (joined_places ps)
  left-of len [] i j are there within = absurd (omega arith)
  left-of len (p ∷ ps) zero j are there within =
      let long : length p ≡ len = are.0 in let times = mul-zero len in let at : len * 0 + j ≡ j = omega arith in
      let behind : len * (0 + 1) ≡ length p = omega arith in
      ap (λ n. drop n (p ++ joined_places ps)) at ∙ drop-append-le j p (joined_places ps) (omega arith)
      ∙ ap (λ qs. drop j p ++ qs) (sym (ap (λ n. drop n (p ++ joined_places ps)) behind ∙ drop-append_seam p (joined_places ps)))
  left-of len (p ∷ ps) (suc i) j are there within =
      let long : length p ≡ len = are.0 in let times = mul-suc len i in
      let at : len * suc i + j ≡ length p + (len * i + j) = omega arith in
      let further : suc i + 1 ≡ suc (i + 1) = omega arith in
      let all = mul-suc len (i + 1) in
      let behind : len * (suc i + 1) ≡ length p + len * (i + 1) = ap (λ n. len * n) further ∙ omega arith in
      ap (λ n. drop n (p ++ joined_places ps)) at ∙ drop-append-add p (joined_places ps) (len * i + j)
      ∙ left-of len ps i j are.1 (omega arith) within
      ∙ ap (λ qs. drop j (get_or ps i []) ++ qs) (sym (ap (λ n. drop n (p ++ joined_places ps)) behind ∙ drop-append-add p (joined_places ps) (len * (i + 1))))

  length-left : (len i : ℕ) (xs : List (Option V)) → length xs ≡ len → i ≤ len → length (drop i xs) + i ≡ len
  length-left len zero xs long within = omega arith
  length-left len (suc i) [] long within = absurd (omega arith)
  length-left zero (suc i) (x ∷ xs) long within = absurd (omega arith)
  length-left (suc len) (suc i) (x ∷ xs) long within = let rest = length-left len i xs (omega arith) (omega arith) in omega arith

  group-long : (len : ℕ) (ps : List (List (Option V))) (i : ℕ) → HaveLen len ps → i < length ps → length (get_or ps i []) ≡ len
  group-long len [] i are there = absurd (omega arith)
  group-long len (p ∷ ps) zero are there = are.0
  group-long len (p ∷ ps) (suc i) are there = group-long len ps i are.1 (omega arith)

  -- the numbers left from a place of a group on: those left of the group, and those of the groups behind it
  numbers-left : (len : ℕ) (ps : List (List (Option V))) (i j base : ℕ) → HaveLen len ps → i < length ps → j ≤ len
      → numbered (base + (len * i + j)) (drop (len * i + j) (joined_places ps))
      ≡ numbered (base + len * i + j) (drop j (get_or ps i [])) ++ numbered (base + len * (i + 1)) (drop (len * (i + 1)) (joined_places ps))
  numbers-left len ps i j base are there within =
      let long = length-left len j (get_or ps i []) (group-long len ps i are there) within in
      let times : len * (i + 1) ≡ len * i + len = omega arith in
      let here : base + (len * i + j) ≡ base + len * i + j = omega arith in
      let behind : base + len * i + j + length (drop j (get_or ps i [])) ≡ base + len * (i + 1) = omega arith in
      ap (λ xs. numbered (base + (len * i + j)) xs) (left-of len ps i j are there within)
      ∙ ap (λ n. numbered n (drop j (get_or ps i []) ++ drop (len * (i + 1)) (joined_places ps))) here
      ∙ numbered-append (base + len * i + j) (drop j (get_or ps i [])) (drop (len * (i + 1)) (joined_places ps))
      ∙ ap (λ n. numbered (base + len * i + j) (drop j (get_or ps i [])) ++ numbered n (drop (len * (i + 1)) (joined_places ps))) behind

  -- a group in which none is left is passed
  pub group-passed : (len : ℕ) (ps : List (List (Option V))) (i j base : ℕ) → HaveLen len ps → i < length ps → j ≤ len → IsFirstFrom (get_or ps i []) j None
      → numbered (base + (len * i + j)) (drop (len * i + j) (joined_places ps)) ≡ numbered (base + len * (i + 1)) (drop (len * (i + 1)) (joined_places ps))
  group-passed len ps i j base are there within none =
      numbers-left len ps i j base are there within
      ∙ ap (λ es. es ++ numbered (base + len * (i + 1)) (drop (len * (i + 1)) (joined_places ps))) (none (base + len * i))

  -- the first that is left of a group is the first of all that are left
  pub group-found : (len : ℕ) (ps : List (List (Option V))) (i j place base : ℕ) (v : V) → HaveLen len ps → i < length ps → j ≤ len → place < len → IsFirstFrom (get_or ps i []) j (Some (place, v))
      → numbered (base + (len * i + j)) (drop (len * i + j) (joined_places ps))
      ≡ (base + (len * i + place), v) ∷ numbered (base + (len * i + place) + 1) (drop (len * i + place + 1) (joined_places ps))
  group-found len ps i j place base v are there within inside found =
      let number : base + len * i + place ≡ base + (len * i + place) = omega arith in
      let next : base + len * i + (place + 1) ≡ base + len * i + place + 1 = omega arith in
      let after : base + (len * i + (place + 1)) ≡ base + (len * i + place) + 1 = omega arith in
      let behind : len * i + (place + 1) ≡ len * i + place + 1 = omega arith in
      let others = numbered (base + len * (i + 1)) (drop (len * (i + 1)) (joined_places ps)) in
      numbers-left len ps i j base are there within
      ∙ ap (λ es. es ++ others) (found (base + len * i))
      ∙ ap (λ n. (n, v) ∷ (numbered (base + len * i + place + 1) (drop (place + 1) (get_or ps i [])) ++ others)) number
      ∙ ap (λ es. (base + (len * i + place), v) ∷ es)
      (ap (λ n. numbered n (drop (place + 1) (get_or ps i [])) ++ others) (sym next)
      ∙ sym (numbers-left len ps i (place + 1) base are there (omega arith))
      ∙ ap (λ n. numbered n (drop (len * i + (place + 1)) (joined_places ps))) after
      ∙ ap (λ n. numbered (base + (len * i + place) + 1) (drop n (joined_places ps))) behind)

  -- places more without values change nothing that is seen
  numbered-more : (k n : ℕ) (xs : List (Option V)) → numbered k (xs ++ replicate n None) ≡ numbered k xs
  numbered-more k n xs = numbered-append k xs (replicate n None) ∙ ap (λ es. numbered k xs ++ es) (numbered-none (k + length xs) n) ∙ append-nil (numbered k xs)

  pub dense-more : (xs : List (Option V)) (n : ℕ) → dense (xs ++ replicate n None) ≡ dense xs
  dense-more xs n = ap from_entries (numbered-more 0 n xs)

  pub valued-more : (xs : List (Option V)) (n : ℕ) → valued (xs ++ replicate n None) ≡ valued xs
  valued-more xs n = sym (count-numbered 0 (xs ++ replicate n None)) ∙ ap length (numbered-more 0 n xs) ∙ count-numbered 0 xs

  -- past all groups none is left
  pub none-left : (xs : List (Option V)) (i k : ℕ) → length xs ≤ i → numbered k (drop i xs) ≡ []
  none-left [] i k past = ap (numbered k) (drop-nil i)
  none-left (x ∷ xs) zero k past = absurd (omega arith)
  none-left (x ∷ xs) (suc i) k past = none-left xs i k (omega arith)

  -- The entries of the map that places make.

  above : (k m : ℕ) (xs : List (Option V)) → k < m → T (below_all nat_cmp k (numbered m xs))
  above k m [] lt = tt
  above k m (None ∷ xs) lt = above k (suc m) xs (omega arith)
  above k m (Some v ∷ xs) lt = both _ _ (less k m lt) (above k (suc m) xs (omega arith))

  rising : (k : ℕ) (xs : List (Option V)) → T (is_sorted nat_cmp (numbered k xs))
  rising k [] = tt
  rising k (None ∷ xs) = rising (suc k) xs
  rising k (Some v ∷ xs) = both _ _ (above k (suc k) xs (omega arith)) (rising (suc k) xs)

  pub entries-dense : (xs : List (Option V)) → entries (dense xs) ≡ numbered 0 xs
  entries-dense xs =
      ap entries (same_map nat_cmp_total nat_cmp-IsAntisymmetric (dense xs) (from_sorted (numbered 0 xs)) (λ q.
      get-from_entries nat_cmp_total (numbered 0 xs) q ∙ sym (get-from_sorted nat_cmp (numbered 0 xs) q (rising 0 xs))))
      ∙ entries-from_sorted nat_cmp (numbered 0 xs) (rising 0 xs)

  -- as many as have a value
  pub len-dense : (xs : List (Option V)) → len (dense xs) ≡ valued xs
  len-dense xs = len-entries (dense xs) ∙ ap length (entries-dense xs) ∙ count-numbered 0 xs
