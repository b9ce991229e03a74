-- Pages of places: what one has, how many of its places have a value, and where the places of many
-- stand one after another.
use Rattle.std.proofs.Common.{◌≡◌, ◌≤◌, ◌<◌, ◌+◌, ◌-◌, ◌*◌, ℕ, zero, suc, List, [], ◌∷◌, ◌++◌, length, Option, Some, None, IsSome, false, set, get_or, replicate, take, drop, arith, refl, sym, ap, subst, ◌∙◌, ⊎_elim}
use Rattle.std.proofs.Math.Nat.{mul-suc, mul-zero}
use Rattle.std.proofs.lemmas.Bool.{false≢true}
use Rattle.std.proofs.lemmas.Option.{none-some}
use Rattle.std.proofs.lemmas.List.{length-replicate, length-append, length-set, append_assoc, replicate-append-replicate, get_or_append_left, get_or_default, get_or-append-add, set-append_left, set-append_right}
use Rattle.std.proofs.Math.Seq.{drop-append_seam, take-append_seam}
use Rattle.std.specs.Option.{is_some}
use Rattle.ft_paged.specs.declared.TheConstants.{PAGE_LEN}
use Rattle.ft_paged.proofs.Places.{inside}
use Rattle.ft_paged.specs.Paged.{all_places, blank, valued, joined_places, HaveLen, IsWhole}

-- places without values are as many
pub pages-blank : (V : Type 0) (len n : ℕ) → HaveLen {V = V} len (replicate n (replicate len None))
pages-blank V len zero = tt
pages-blank V len (suc n) = (length-replicate {A = Option V} len None, pages-blank V len n)

module _ {V : Type 0} where
  -- How many places have a value.

  pub valued-put : (xs : List (Option V)) (i : ℕ) (v : V) → i < length xs → get_or xs i None ≡ None → valued (set xs i (Some v)) ≡ suc (valued xs)
  valued-put [] i v lt is = absurd (omega arith)
  valued-put (None ∷ xs) zero v lt is = refl
  valued-put (Some x ∷ xs) zero v lt is = absurd (none-some x (sym is))
  valued-put (None ∷ xs) (suc i) v lt is = valued-put xs i v (omega arith) is
  valued-put (Some x ∷ xs) (suc i) v lt is = ap suc (valued-put xs i v (omega arith) is)

  pub valued-again : (xs : List (Option V)) (i : ℕ) (v : V) → IsSome (get_or xs i None) → valued (set xs i (Some v)) ≡ valued xs
  valued-again [] i v some = absurd (false≢true some)
  valued-again (None ∷ xs) zero v some = absurd (false≢true some)
  valued-again (Some x ∷ xs) zero v some = refl
  valued-again (None ∷ xs) (suc i) v some = valued-again xs i v some
  valued-again (Some x ∷ xs) (suc i) v some = ap suc (valued-again xs i v some)

  pub valued-taken : (xs : List (Option V)) (i : ℕ) → IsSome (get_or xs i None) → suc (valued (set xs i None)) ≡ valued xs
  valued-taken [] i some = absurd (false≢true some)
  valued-taken (None ∷ xs) zero some = absurd (false≢true some)
  valued-taken (Some x ∷ xs) zero some = refl
  valued-taken (None ∷ xs) (suc i) some = valued-taken xs i some
  valued-taken (Some x ∷ xs) (suc i) some = ap suc (valued-taken xs i some)

  pub valued-nothing : (xs : List (Option V)) → valued xs ≡ 0 → xs ≡ replicate (length xs) None
  valued-nothing [] is = refl
  valued-nothing (None ∷ xs) is = ap (λ ys. None ∷ ys) (valued-nothing xs is)
  valued-nothing (Some x ∷ xs) is = absurd (omega arith)

  pub valued-most : (xs : List (Option V)) → valued xs ≤ length xs
  valued-most [] = omega arith
  valued-most (None ∷ xs) = let le = valued-most xs in omega arith
  valued-most (Some x ∷ xs) = let le = valued-most xs in omega arith

  -- What a look at a place has found.

  same-at : (xs : List (Option V)) (i : ℕ) (o : Option V) → i < length xs → o ≡ get_or xs i o → o ≡ get_or xs i None
  same-at xs i o lt is = is ∙ get_or_default xs i o None lt

  pub none-at : (xs : List (Option V)) (i : ℕ) (o : Option V) → i < length xs → o ≡ get_or xs i o → is_some o ≡ false → get_or xs i None ≡ None
  none-at xs i None lt is none = sym (same-at xs i None lt is)
  none-at xs i (Some v) lt is none = absurd (false≢true (sym none))

  pub some-at : (xs : List (Option V)) (i : ℕ) (o : Option V) → i < length xs → o ≡ get_or xs i o → IsSome o → IsSome (get_or xs i None)
  some-at xs i o lt is some = subst IsSome (same-at xs i o lt is) some

  -- The places of one page.

  pub all-whole : (xs : List (Option V)) → length xs ≡ PAGE_LEN → all_places xs ≡ xs
  all-whole [] long = absurd (omega arith)
  all-whole (x ∷ xs) long = refl

  pub all-long : (xs : List (Option V)) → IsWhole xs → length (all_places xs) ≡ PAGE_LEN
  all-long [] whole = length-replicate {A = Option V} PAGE_LEN None
  all-long (x ∷ xs) whole = ⊎_elim (λ none. absurd (omega arith)) (λ long. long) whole

  -- where none has a value they are those of a blank page
  pub all-nothing : (xs : List (Option V)) → IsWhole xs → valued xs ≡ 0 → all_places xs ≡ blank
  all-nothing [] whole is = refl
  all-nothing (x ∷ xs) whole is = valued-nothing (x ∷ xs) is ∙ ap (λ n. replicate n None) (all-long (x ∷ xs) whole)

  pub all-set : (xs : List (Option V)) (i : ℕ) (o : Option V) → length xs ≡ PAGE_LEN → all_places (set xs i o) ≡ set (all_places xs) i o
  all-set xs i o long = all-whole (set xs i o) (length-set xs i o ∙ long) ∙ ap (λ ys. set ys i o) (sym (all-whole xs long))

  nowhere : (n q : ℕ) → get_or {A = Option V} (replicate n None) q None ≡ None
  nowhere zero q = nothing q
    where
      nothing : (q : ℕ) → get_or {A = Option V} [] q None ≡ None
      nothing zero = refl
      nothing (suc q) = refl
  nowhere (suc n) zero = refl
  nowhere (suc n) (suc q) = nowhere n q

  pub all-get : (xs : List (Option V)) (i : ℕ) → get_or xs i None ≡ get_or (all_places xs) i None
  all-get [] i = nowhere 0 i ∙ sym (nowhere PAGE_LEN i)
  all-get (x ∷ xs) i = refl

  -- a place that is seen to have a value stands in memory, and all others with it
  pub has-value : (xs seen : List (Option V)) (i : ℕ) → all_places xs ≡ seen → IsSome (get_or seen i None) → IsSome (get_or xs i None)
  has-value xs seen i is some = subst IsSome (ap (λ ys. get_or ys i None) (sym is) ∙ sym (all-get xs i)) some

  pub has-places : (xs : List (Option V)) (i : ℕ) → IsWhole xs → IsSome (get_or xs i None) → length xs ≡ PAGE_LEN
  has-places xs i whole some = let within = inside xs i some in ⊎_elim (λ none. absurd (omega arith)) (λ long. long) whole

  pub whole-most : (xs : List (Option V)) → IsWhole xs → length xs ≤ PAGE_LEN
  whole-most xs whole = ⊎_elim (λ none. omega arith) (λ long. omega arith) whole

  -- The places of many, one after another.

  pub joined-length : (len : ℕ) (ps : List (List (Option V))) → HaveLen len ps → length (joined_places ps) ≡ len * length ps
  joined-length len [] are = sym (mul-zero len)
  joined-length len (p ∷ ps) are = let more = joined-length len ps are.1 in let long = are.0 in let all = length-append p (joined_places ps) in let times = mul-suc len (length ps) in omega arith

  -- what they have at a place of one of them
  pub joined-get : (len : ℕ) (ps : List (List (Option V))) (i j : ℕ) → HaveLen len ps → i < length ps → j < len → get_or (joined_places ps) (len * i + j) None ≡ get_or (get_or ps i []) j None
  joined-get len [] i j are there within = absurd (omega arith)
  joined-get len (p ∷ ps) zero j are there within =
      let long : length p ≡ len = are.0 in let times = mul-zero len in let at : len * 0 + j ≡ j = omega arith in
      ap (λ k. get_or (p ++ joined_places ps) k None) at ∙ get_or_append_left p (joined_places ps) None j (omega arith)
  joined-get len (p ∷ ps) (suc i) j are there within =
      let long : length p ≡ len = are.0 in let times = mul-suc len i in let at : len * suc i + j ≡ length p + (len * i + j) = omega arith in
      ap (λ k. get_or (p ++ joined_places ps) k None) at ∙ get_or-append-add p (joined_places ps) (len * i + j) None ∙ joined-get len ps i j are.1 (omega arith) within

  -- a place of one of them that is set
  pub joined-set : (len : ℕ) (ps : List (List (Option V))) (i j : ℕ) (o : Option V) → HaveLen len ps → i < length ps → j < len → joined_places (set ps i (set (get_or ps i []) j o)) ≡ set (joined_places ps) (len * i + j) o
  joined-set len [] i j o are there within = absurd (omega arith)
  joined-set len (p ∷ ps) zero j o are there within =
      let long : length p ≡ len = are.0 in let times = mul-zero len in let at : j ≡ len * 0 + j = omega arith in
      sym (set-append_left p (joined_places ps) j o (omega arith)) ∙ ap (λ k. set (p ++ joined_places ps) k o) at
  joined-set len (p ∷ ps) (suc i) j o are there within =
      let long : length p ≡ len = are.0 in let times = mul-suc len i in let past : len * suc i + j - length p ≡ len * i + j = omega arith in
      ap (λ xs. p ++ xs) (joined-set len ps i j o are.1 (omega arith) within ∙ ap (λ k. set (joined_places ps) k o) (sym past))
      ∙ sym (set-append_right p (joined_places ps) (length p) (len * suc i + j) o refl (omega arith))

  pub pages-set : (len : ℕ) (ps : List (List (Option V))) (i : ℕ) (p : List (Option V)) → HaveLen len ps → length p ≡ len → HaveLen len (set ps i p)
  pages-set len [] i p are long = are
  pages-set len (q ∷ ps) zero p are long = (long, are.1)
  pages-set len (q ∷ ps) (suc i) p are long = (are.0, pages-set len ps i p are.1 long)

  -- each has all its places
  pub pages-long : (len : ℕ) (ps : List (List (Option V))) (i : ℕ) → HaveLen len ps → i < length ps → length (get_or ps i []) ≡ len
  pages-long len [] i are there = absurd (omega arith)
  pages-long len (p ∷ ps) zero are there = are.0
  pages-long len (p ∷ ps) (suc i) are there = pages-long len ps i are.1 (omega arith)

  -- More of them, without values.

  pub pages-joined : (len : ℕ) (ps qs : List (List (Option V))) → HaveLen len ps → HaveLen len qs → HaveLen len (ps ++ qs)
  pages-joined len [] qs are are' = are'
  pages-joined len (p ∷ ps) qs are are' = (are.0, pages-joined len ps qs are.1 are')

  joined-append : (ps qs : List (List (Option V))) → joined_places (ps ++ qs) ≡ joined_places ps ++ joined_places qs
  joined-append [] qs = refl
  joined-append (p ∷ ps) qs = ap (λ xs. p ++ xs) (joined-append ps qs) ∙ sym (append_assoc p (joined_places ps) (joined_places qs))

  joined-blank : (len n : ℕ) → joined_places {V = V} (replicate n (replicate len None)) ≡ replicate (len * n) None
  joined-blank len zero = let times = mul-zero len in let none : 0 ≡ len * 0 = omega arith in ap (λ k. replicate k None) none
  joined-blank len (suc n) =
      let times = mul-suc len n in let all : len + len * n ≡ len * suc n = omega arith in
      ap (λ xs. replicate len None ++ xs) (joined-blank len n) ∙ replicate-append-replicate len (len * n) None ∙ ap (λ k. replicate k None) all

  pub joined-more : (len : ℕ) (ps : List (List (Option V))) (n : ℕ) → joined_places (ps ++ replicate n (replicate len None)) ≡ joined_places ps ++ replicate (len * n) None
  joined-more len ps n = joined-append ps (replicate n (replicate len None)) ∙ ap (λ xs. joined_places ps ++ xs) (joined-blank len n)

  pub joined-front : (len n : ℕ) (ps : List (List (Option V))) → joined_places (replicate n (replicate len None) ++ ps) ≡ replicate (len * n) None ++ joined_places ps
  joined-front len n ps = joined-append (replicate n (replicate len None)) ps ∙ ap (λ xs. xs ++ joined_places ps) (joined-blank len n)

  pub lengthened : (p : List (Option V)) (ps qs : List (List (Option V))) (n : ℕ) → qs ≡ ps ++ replicate n p → length qs ≡ length ps + n
  lengthened p ps qs n is = ap length is ∙ length-append ps (replicate n p) ∙ ap (λ k. length ps + k) (length-replicate n p)

  -- those more behind, turned to the front
  pub turned : (p : List (Option V)) (ps qs : List (List (Option V))) (n k : ℕ) → qs ≡ ps ++ replicate n p → k ≡ length ps → drop k qs ++ take k qs ≡ replicate n p ++ ps
  turned p ps qs n k is long =
      ap (λ k. drop k qs ++ take k qs) long ∙ ap (λ rs. drop (length ps) rs ++ take (length ps) rs) is
      ∙ ap (λ rs. rs ++ take (length ps) (ps ++ replicate n p)) (drop-append_seam ps (replicate n p)) ∙ ap (λ rs. replicate n p ++ rs) (take-append_seam ps (replicate n p))
