-- How many pages of blocks are made: those of each block.
use Rattle.std.proofs.Common.{refl, suc, zero, ◌≡◌, ◌≢◌, ℕ, ◌+◌, ◌-◌, ◌*◌, ◌/◌, ◌%◌, ◌<◌, ◌≤◌, Bool, true, false, cond, List, [], ◌∷◌, length, get_or, arith, ap, sym, ◌∙◌, ⊎_elim}
use Rattle.std.specs.Prelude.{count_by}
use Rattle.std.specs.List.{range_with_len, sum_by}
use Rattle.std.proofs.lemmas.List.{get_or_past}
use Rattle.std.proofs.lemmas.List.FromFn.{length-range_with_len}
use Rattle.std.proofs.lemmas.List.Sums.{sum_by-cons, count_by-le-length}
use Rattle.std.proofs.lemmas.Bool.{cases_lt, cases_Bool, both_ways}
use Rattle.ft_body.specs.declared.blocks.Placed.{Placed}
use Rattle.ft_body.specs.Blocks.{placed_at, block_in, byte_of, bytes_of, IsBlock, AreBlocks, IsBlocked}
use Rattle.ft_body.specs.Paging.{is_made, made_pages, page_count}
use Rattle.ft_body.proofs.Filled.{fill-at}
use Rattle.ft_body.proofs.Made.{zeros_are_hole, hole_is_zeros}
use Rattle.ft_body.proofs.BlockLists.{first_in, behind_in, none_below, found_in, each_block}
use Rattle.ft_body.proofs.Blocked.{byte_at, length-bytes_of}

-- how many numbers pass a test, of so many from one on
one : Bool → ℕ
one b = cond b 1 0

count : (ℕ → Bool) → ℕ → ℕ → ℕ
count P a n = count_by P (range_with_len a n)

count_first : (P : ℕ → Bool) (a n : ℕ) → count P a (suc n) ≡ one (P a) + count P (a + 1) n
unfolding count one
count_first P a n = sum_by-cons (λ i. cond (P i) 1 0) a (range_with_len (a + 1) n)

one_false : one false ≡ 0
unfolding one
one_false = refl

count_zero : (P : ℕ → Bool) (a : ℕ) → count P a 0 ≡ 0
unfolding count
count_zero P a = refl

count_none : (P : ℕ → Bool) (a n : ℕ) → ((i : ℕ) → a ≤ i → i < a + n → P i ≡ false) → count P a n ≡ 0
count_none P a zero none = count_zero P a
count_none P a (suc n) none =
    omega (arith, count_first P a n, ap one (none a (omega arith) (omega arith)) ∙ one_false, count_none P (a + 1) n (λ i h g. none i (omega arith) (omega arith)))

count_same : (P Q : ℕ → Bool) (a b n : ℕ) → ((i : ℕ) → i < n → P (a + i) ≡ Q (b + i)) → count P a n ≡ count Q b n
count_same P Q a b zero same = count_zero P a ∙ sym (count_zero Q b)
count_same P Q a b (suc n) same =
    let left : a + 0 ≡ a = omega arith in
    let right : b + 0 ≡ b = omega arith in
    let head : P a ≡ Q b = ap P (sym left) ∙ same 0 (omega arith) ∙ ap Q right in
    let rest : count P (a + 1) n ≡ count Q (b + 1) n = count_same P Q (a + 1) (b + 1) n (λ i h.
    ap P (let e : a + 1 + i ≡ a + suc i = omega arith in e) ∙ same (suc i) (omega arith) ∙ ap Q (let e : b + suc i ≡ b + 1 + i = omega arith in e)) in
    count_first P a n ∙ ap (λ x. one x + count P (a + 1) n) head ∙ ap (λ x. one (Q b) + x) rest ∙ sym (count_first Q b n)

count_both : (P : ℕ → Bool) (a m n : ℕ) → count P a (m + n) ≡ count P a m + count P (a + m) n
count_both P a zero n =
    let size : 0 + n ≡ n = omega arith in
    let from : a ≡ a + 0 = omega arith in
    omega (arith, ap (count P a) size, ap (λ b. count P b n) from, count_zero P a)
count_both P a (suc m) n =
    let size : suc m + n ≡ suc (m + n) = omega arith in
    let from : a + 1 + m ≡ a + suc m = omega arith in
    omega (arith, ap (count P a) size, count_first P a (m + n), count_both P (a + 1) m n, count_first P a m, ap (λ b. count P b n) from)

-- numbers of blocks
under : (a b c : ℕ) → a ≤ b → b + 1 ≤ c → a ≤ c
under a b c h g = omega arith

apart : (a b : ℕ) → a + 1 ≤ b → a ≢ b
apart a b h e = omega arith

-- sums with nothing
none_first : (n : ℕ) → 0 + n ≡ n
none_first n = omega arith

none_last : (n : ℕ) → n + 0 ≡ n
none_last n = omega arith

-- pages that read alike are both made or both holes
same_holes : (xs ys : List ℕ) (p q : ℕ) → ((j : ℕ) → j < 4096 → get_or xs (p * 4096 + j) 0 ≡ get_or ys (q * 4096 + j) 0) → is_made xs p ≡ false → is_made ys q ≡ false
same_holes xs ys p q same hole = zeros_are_hole ys q (λ k h g.
    let at : q * 4096 + (k - q * 4096) ≡ k = omega arith in
    ap (λ n. get_or ys n 0) (sym at) ∙ sym (same (k - q * 4096) (omega arith)) ∙ hole_is_zeros xs p (p * 4096 + (k - q * 4096)) hole (omega arith) (omega arith))

made_like : (xs ys : List ℕ) (p q : ℕ) → ((j : ℕ) → j < 4096 → get_or xs (p * 4096 + j) 0 ≡ get_or ys (q * 4096 + j) 0) → is_made xs p ≡ is_made ys q
made_like xs ys p q same = ⊎_elim
    (λ (x : is_made xs p ≡ true). ⊎_elim
    (λ (y : is_made ys q ≡ true). x ∙ sym y)
    (λ (y : is_made ys q ≡ false). absurd (both_ways (is_made xs p) (same_holes ys xs q p (λ j h. sym (same j h)) y) x))
    (cases_Bool (is_made ys q)))
    (λ (x : is_made xs p ≡ false). x ∙ sym (same_holes xs ys p q same x))
    (cases_Bool (is_made xs p))

-- pages behind the bytes are holes
past_is_hole : (xs : List ℕ) (p : ℕ) → length xs ≤ p * 4096 → is_made xs p ≡ false
past_is_hole xs p h = zeros_are_hole xs p (λ k g f. get_or_past xs k 0 (omega arith))

-- the pages that are made are a count
count_is_made : (xs : List ℕ) → count (is_made xs) 0 ((length xs + 4095) / 4096) ≡ made_pages xs
unfolding count made_pages
count_is_made xs = refl

-- the pages of one block
block_pages : (block : List ℕ) → length block ≤ 2097152 → count (is_made block) 0 512 ≡ made_pages block
block_pages block fits =
    let n : ℕ = (length block + 4095) / 4096 in
    let size : n + (512 - n) ≡ 512 = omega arith in
    sym (ap (count (is_made block) 0) size) ∙ count_both (is_made block) 0 n (512 - n)
    ∙ ap (λ x. count (is_made block) 0 n + x) (count_none (is_made block) (0 + n) (512 - n) (λ i h g. past_is_hole block i (omega arith)))
    ∙ none_last (count (is_made block) 0 n) ∙ count_is_made block

-- and those of all
blocks_count : (l : ℕ) (bs : List Placed) (P : ℕ → Bool) (n : ℕ) → AreBlocks l bs → ((m q : ℕ) → l ≤ m → q < 512 → P (m * 512 + q) ≡ is_made (block_in bs m) q)
    → ((i : ℕ) → i < length bs → ((placed_at bs i).at + 1) * 512 ≤ l * 512 + n) → count P (l * 512) n ≡ sum_by (λ placed. made_pages placed.block) bs
blocks_count l [] P n are like fits = count_none P (l * 512) n (λ i h g.
    let at : i ≡ i / 512 * 512 + i % 512 = omega arith in
    ap P at ∙ like (i / 512) (i % 512) (omega arith) (omega arith) ∙ past_is_hole [] (i % 512) (omega arith))
blocks_count l (b ∷ bs) P n are like fits =
    let gap : ℕ = (b.at - l) * 512 in
    let rest : ℕ = n - gap - 512 in
    let low : l ≤ b.at = are.0 in
    let room : (b.at + 1) * 512 ≤ l * 512 + n = fits 0 (omega arith) in
    let size : gap + (512 + rest) ≡ n = omega arith in
    let here : l * 512 + gap ≡ b.at * 512 = omega arith in
    let later : l * 512 + gap + 512 ≡ (b.at + 1) * 512 = omega arith in
    let before : count P (l * 512) gap ≡ 0 = count_none P (l * 512) gap (λ i h g.
    let at : i ≡ i / 512 * 512 + i % 512 = omega arith in
    let none : block_in (b ∷ bs) (i / 512) ≡ [] = none_below b.at (b ∷ bs) (i / 512) (omega arith, are.1, are.2) (omega arith) in
    ap P at ∙ like (i / 512) (i % 512) (omega arith) (omega arith) ∙ ap (λ x. is_made x (i % 512)) none ∙ past_is_hole [] (i % 512) (omega arith)) in
    let first : count P (l * 512 + gap) 512 ≡ made_pages b.block =
    count_same P (is_made b.block) (l * 512 + gap) 0 512 (λ i h.
    ap (λ a. P (a + i)) here ∙ like b.at i low h ∙ ap (λ x. is_made x i) (first_in b bs b.at refl) ∙ ap (is_made b.block) (let e : i ≡ 0 + i = omega arith in e))
    ∙ block_pages b.block are.1.fits in
    let others : count P (l * 512 + gap + 512) rest ≡ sum_by (λ placed. made_pages placed.block) bs =
    ap (λ a. count P a rest) later ∙ blocks_count (b.at + 1) bs P rest are.2
    (λ m q h g. like m q (under l b.at m low h) g ∙ ap (λ x. is_made x q) (behind_in b bs m (apart b.at m h)))
    (λ i h. omega (arith, fits (suc i) (omega arith))) in
    sym (ap (count P (l * 512)) size) ∙ count_both P (l * 512) gap (512 + rest) ∙ ap (λ x. x + count P (l * 512 + gap) (512 + rest)) before
    ∙ none_first (count P (l * 512 + gap) (512 + rest))
    ∙ count_both P (l * 512 + gap) 512 rest ∙ ap (λ x. x + count P (l * 512 + gap + 512) rest) first ∙ ap (λ x. made_pages b.block + x) others
    ∙ sym (sum_by-cons (λ placed. made_pages placed.block) b bs)

-- a block stands where there are bytes
block_below : (size : ℕ) (bs : List Placed) (i : ℕ) → IsBlocked size bs → i < length bs → (placed_at bs i).at * 2097152 < size
block_below size bs i blocked h =
    let b : Placed = placed_at bs i in
    let is : IsBlock b.block = each_block 0 bs i blocked.blocks_are h in
    let fits : length b.block ≤ 2097152 = is.fits in
    let some : 0 < length b.block = is.some in
    ⊎_elim (λ (g : b.at * 2097152 < size). g)
    (λ (g : size ≤ b.at * 2097152).
    let zero : byte_of bs (b.at * 2097152 + (length b.block - 1)) ≡ 0 = blocked.past (b.at * 2097152 + (length b.block - 1)) (omega arith) in
    absurd (is.no_end_zero some (sym (byte_at bs (b.at * 2097152 + (length b.block - 1)) b.at (length b.block - 1) refl (omega arith)
    ∙ ap (λ x. get_or x (length b.block - 1) 0) (found_in 0 bs i b.at blocked.blocks_are h refl)) ∙ zero)))
    (cases_lt (b.at * 2097152) size)

pub blocks_made : (size : ℕ) (bs : List Placed) → IsBlocked size bs → sum_by (λ placed. made_pages placed.block) bs ≡ made_pages (bytes_of size bs)
blocks_made size bs blocked =
    let xs : List ℕ = bytes_of size bs in
    let n : ℕ = (size + 4095) / 4096 in
    let long : length xs ≡ size = length-bytes_of size bs in
    let all = blocks_count 0 bs (is_made xs) (n + 512) blocked.blocks_are
    (λ m q h g. made_like xs (block_in bs m) (m * 512 + q) q (λ j f.
    fill-at (byte_of bs) size ((m * 512 + q) * 4096 + j) blocked.past ∙ byte_at bs ((m * 512 + q) * 4096 + j) m (q * 4096 + j) (omega arith) (omega arith)))
    (λ i h. omega (arith, block_below size bs i blocked h)) in
    sym all ∙ count_both (is_made xs) 0 n 512
    ∙ ap (λ x. count (is_made xs) 0 n + x) (count_none (is_made xs) (0 + n) 512 (λ i h g. past_is_hole xs i (omega arith)))
    ∙ none_last (count (is_made xs) 0 n) ∙ ap (λ m. count (is_made xs) 0 ((m + 4095) / 4096)) (sym long) ∙ count_is_made xs

le_both : (a b c : ℕ) → a ≤ b → b ≤ c → a ≤ c
le_both a b c h g = omega arith

few_made : (xs : List ℕ) → made_pages xs ≤ page_count (length xs)
unfolding made_pages
few_made xs = rw (length-range_with_len 0 (page_count (length xs))) at (count_by-le-length (is_made xs) (range_with_len 0 (page_count (length xs))))

pub made_fits : (size : ℕ) (bs : List Placed) → IsBlocked size bs → sum_by (λ placed. made_pages placed.block) bs ≤ 34359738369
made_fits size bs blocked =
    let xs : List ℕ = bytes_of size bs in
    let limit : size ≤ 140737488355328 = blocked.limit in
    let long : length xs ≡ size = length-bytes_of size bs in
    let few : page_count (length xs) ≤ 34359738369 = omega arith in
    rw (blocks_made size bs blocked) (le_both (made_pages xs) (page_count (length xs)) 34359738369 (few_made xs) few)
