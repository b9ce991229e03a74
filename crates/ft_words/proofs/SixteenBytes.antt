-- What the masks of sixteen bytes say of each of them.
use Rattle.std.proofs.Common.{◌≡◌, ◌⊎◌, ℕ, zero, suc, ◌+◌, ◌%◌, ◌^◌, ◌<◌, ◌≤◌, max, List, length, Bool, true, false, cond, ◌||◌, get_or, map, replicate, take, bit_or, refl, sym, ap, ◌∙◌, inl, inr, arith, w8}
use Rattle.std.specs.Int.{bit_at}
use Rattle.std.specs.Simd.Lanes.{chunk, mask_l, put_chunk, top, zip2}
use Rattle.std.proofs.lemmas.Bool.{cases_lt}
use Rattle.std.proofs.lemmas.List.{take-take}
use Rattle.std.proofs.lemmas.Nat.Bits.{bit_at-lt, bit_at-zero, bit_at_or}
use Rattle.std.proofs.lemmas.Simd.{length-chunk, length-zip2, length-replicate, get_or-zip2, get_or-replicate, bit_mask_l, tops_compared, mask_l-mod, take_more_put_chunk}

-- where the comparison of two lanes holds, its bit is set
marked : (t : ℕ → ℕ → Bool) (xs ys : List ℕ) (k : ℕ) → length xs ≡ 16 → length ys ≡ 16 → k < 16 → t (get_or xs k 0) (get_or ys k 0) ≡ true → bit_at (mask_l (map (top 7) (zip2 (λ a b. cond (t a b) 255 0) xs ys)) % 2 ^ 64) k ≡ 1
marked t xs ys k p q below holds =
    let long = length-zip2 t xs ys (p ∙ sym q) ∙ p in
    ap (λ ms. bit_at (mask_l ms % 2 ^ 64) k) (tops_compared w8 t xs ys)
    ∙ ap (λ m. bit_at m k) (mask_l-mod (zip2 t xs ys) 64 (omega (arith, long)))
    ∙ bit_mask_l (zip2 t xs ys) k
    ∙ ap (λ b. cond b 1 0) (get_or-zip2 t xs ys k 0 0 false (omega (arith, p)) (omega (arith, q)) ∙ holds)

-- with the same byte in each lane of the second vector, or of the first
pub marked_by : (t : ℕ → ℕ → Bool) (xs : List ℕ) (y k : ℕ) → length xs ≡ 16 → k < 16 → t (get_or xs k 0) y ≡ true → bit_at (mask_l (map (top 7) (zip2 (λ a b. cond (t a b) 255 0) xs (replicate 16 y))) % 2 ^ 64) k ≡ 1
marked_by t xs y k p below holds = marked t xs (replicate 16 y) k p (length-replicate 16 y) below (ap (t (get_or xs k 0)) (get_or-replicate 16 k y 0 below) ∙ holds)

pub marked_from : (t : ℕ → ℕ → Bool) (x : ℕ) (ys : List ℕ) (k : ℕ) → length ys ≡ 16 → k < 16 → t x (get_or ys k 0) ≡ true → bit_at (mask_l (map (top 7) (zip2 (λ a b. cond (t a b) 255 0) (replicate 16 x) ys)) % 2 ^ 64) k ≡ 1
marked_from t x ys k q below holds = marked t (replicate 16 x) ys k (length-replicate 16 x) q below (ap (λ a. t a (get_or ys k 0)) (get_or-replicate 16 k x 0 below) ∙ holds)

-- a bit that is set in one of two masks is set in both together
pub or_left : (a b k : ℕ) → bit_at a k ≡ 1 → bit_at (bit_or a b) k ≡ 1
or_left a b k h = bit_at_or a b k ∙ ap (λ x. max x (bit_at b k)) h ∙ omega (arith, bit_at-lt b k)

pub or_right : (a b k : ℕ) → bit_at b k ≡ 1 → bit_at (bit_or a b) k ≡ 1
or_right a b k h = bit_at_or a b k ∙ ap (max (bit_at a k)) h ∙ omega (arith, bit_at-lt a k)

-- one of three tests holds
pub one_of_three : (p q r : Bool) → (p || q || r) ≡ true → (p ≡ true) ⊎ ((q ≡ true) ⊎ (r ≡ true))
one_of_three true q r h = inl refl
one_of_three false true r h = inr (inl refl)
one_of_three false false r h = inr (inr h)

-- the lowest bit that is set stands no higher than one that is
pub lowest_within : (m r n : ℕ) → ((k : ℕ) → k < r → bit_at m k ≡ 0) → bit_at m n ≡ 1 → r ≤ n
lowest_within m r n below set = either (cases_lt n r)
  where
    either : (n < r) ⊎ (r ≤ n) → r ≤ n
    either (inl less) = absurd (omega (arith, below n less, set))
    either (inr h) = h

-- below it none is set in the mask before
pub none_below : (a b k : ℕ) → bit_at (bit_or a b) k ≡ 0 → bit_at a k ≡ 0
none_below a b k h = omega (arith, h, bit_at_or a b k)

-- where a bit is set, the mask is not 0
pub some_bit : (m n : ℕ) → bit_at m n ≡ 1 → 0 < m
some_bit zero n set = absurd (omega (arith, set, bit_at-zero n))
some_bit (suc m) n set = omega arith

-- a byte whose bit is not set
pub unmarked : (p : Bool) (m k : ℕ) → (p ≡ true → bit_at m k ≡ 1) → bit_at m k ≡ 0 → p ≡ false
unmarked false m k h none = refl
unmarked true m k h none = absurd (omega (arith, h refl, none))

-- what a place begins with where sixteen bytes were put at its front
pub put_front : (place bytes : List ℕ) (n : ℕ) → 16 ≤ length bytes → 16 ≤ length place → n ≤ 16 → take n (put_chunk 0 place (chunk 0 16 bytes)) ≡ take n bytes
put_front place bytes n some room few =
    let long : 16 ≡ 0 + length (chunk 0 16 bytes) = omega (arith, length-chunk 0 16 bytes some) in
    let all = take_more_put_chunk 0 place (chunk 0 16 bytes) 16 long room in
    sym (take-take n 16 (put_chunk 0 place (chunk 0 16 bytes)) few) ∙ ap (take n) all ∙ take-take n 16 bytes few
