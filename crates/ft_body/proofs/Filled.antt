-- Bytes that are read by index, with zeros behind so many: as a list, and what a change makes of it.
use Rattle.std.proofs.Common.{◌≡◌, ℕ, ◌+◌, ◌-◌, ◌<◌, ◌≤◌, List, length, take, drop, map, get_or, arith, ap, sym, ◌∙◌, ◌⊎◌, ⊎_elim, length-take, length-drop, length-take-le}
use Rattle.std.specs.List.{range_with_len}
use Prim.Native.Nat.{min, max}
use Rattle.std.proofs.lemmas.List.{same_lists, get_or_default, get_or-take, get_or-drop, get_or_past}
use Rattle.std.proofs.lemmas.List.FromFn.{length-map-range_with_len, get_or-map-range_with_len}
use Rattle.std.proofs.lemmas.Bool.{cases_lt, cases_order}
use Rattle.ft_body.specs.Bytes.{padded, resized, written}
use Rattle.ft_body.specs.Paging.{EndsWithNoZero, IsWritten, IsFront}
use Rattle.ft_body.proofs.Writes.{length-padded}
use Rattle.ft_body.proofs.PageWrites.{written_at, length-written, padded-at_any}

-- lists of bytes are equal where they read alike, with zeros behind them
pub same_bytes : (xs ys : List ℕ) → length xs ≡ length ys → ((k : ℕ) → get_or xs k 0 ≡ get_or ys k 0) → xs ≡ ys
same_bytes xs ys e same = same_lists xs ys e (λ k d h. get_or_default xs k d 0 h ∙ same k ∙ get_or_default ys k 0 d (omega arith))

-- so they are without zeros at their ends, whatever their lengths
shorter : (p q : List ℕ) → EndsWithNoZero q → ((k : ℕ) → get_or p k 0 ≡ get_or q k 0) → length p < length q → ⊥
shorter p q end same h =
    let past : length p ≤ length q - 1 = omega arith in
    end (omega arith) (sym (same (length q - 1)) ∙ get_or_past p (length q - 1) 0 past)

pub same_ends : (p q : List ℕ) → EndsWithNoZero p → EndsWithNoZero q → ((k : ℕ) → get_or p k 0 ≡ get_or q k 0) → p ≡ q
same_ends p q a b same = same_bytes p q
    (⊎_elim (λ (e : length p ≡ length q). e)
    (λ (d : (length p < length q) ⊎ (length q < length p)). absurd (⊎_elim (λ (h : length p < length q). shorter p q b same h) (λ (h : length q < length p). shorter q p a (λ k. sym (same k)) h) d))
    (cases_order (length p) (length q)))
    same

-- so many bytes, and zeros behind them
pub fill-at : (f : ℕ → ℕ) (size k : ℕ) → ((j : ℕ) → size ≤ j → f j ≡ 0) → get_or (map f (range_with_len 0 size)) k 0 ≡ f k
fill-at f size k past = ⊎_elim
    (λ (h : k < size). get_or-map-range_with_len f 0 size k k 0 h (omega arith))
    (λ (h : size ≤ k). let behind : length (map f (range_with_len 0 size)) ≤ k = omega (arith, length-map-range_with_len f 0 size) in
    get_or_past (map f (range_with_len 0 size)) k 0 behind ∙ sym (past k h))
    (cases_lt k size)

-- bytes that are cut or padded to a length
pub length-resized : (xs : List ℕ) (n : ℕ) → length (resized xs n) ≡ n
length-resized xs n = length-take-le n (padded xs n) (omega (arith, length-padded xs n))

pub resized-before : (xs : List ℕ) (n k : ℕ) → k < n → get_or (resized xs n) k 0 ≡ get_or xs k 0
resized-before xs n k h = get_or-take n (padded xs n) k 0 h ∙ padded-at_any xs n k

pub resized-behind : (xs : List ℕ) (n k : ℕ) → n ≤ k → get_or (resized xs n) k 0 ≡ 0
resized-behind xs n k h = let past : length (resized xs n) ≤ k = omega (arith, length-resized xs n) in get_or_past (resized xs n) k 0 past

pub fill_resized : (f g : ℕ → ℕ) (size n : ℕ) → ((j : ℕ) → size ≤ j → f j ≡ 0) → IsFront f g n
    → map g (range_with_len 0 n) ≡ resized (map f (range_with_len 0 size)) n
fill_resized f g size n past front =
    let old : List ℕ = map f (range_with_len 0 size) in
    same_bytes (map g (range_with_len 0 n)) (resized old n) (length-map-range_with_len g 0 n ∙ sym (length-resized old n))
    (λ k. fill-at g n k front.zeros ∙ ⊎_elim
    (λ (h : k < n). front.before k h ∙ sym (fill-at f size k past) ∙ sym (resized-before old n k h))
    (λ (h : n ≤ k). front.zeros k h ∙ sym (resized-behind old n k h))
    (cases_lt k n))

-- bytes that are written
pub written_past : (f g : ℕ → ℕ) (size n offset : ℕ) (bytes : List ℕ) → ((j : ℕ) → size ≤ j → f j ≡ 0) → n ≡ max size (offset + length bytes) → IsWritten f g offset bytes
    → (k : ℕ) → n ≤ k → g k ≡ 0
written_past f g size n offset bytes past is w k h = w.behind k (omega arith) ∙ past k (omega arith)

pub fill_written : (f g : ℕ → ℕ) (size n offset : ℕ) (bytes : List ℕ) → ((j : ℕ) → size ≤ j → f j ≡ 0) → 0 < length bytes → n ≡ max size (offset + length bytes)
    → IsWritten f g offset bytes → map g (range_with_len 0 n) ≡ written (map f (range_with_len 0 size)) offset bytes
fill_written f g size n offset bytes past some is w =
    let old : List ℕ = map f (range_with_len 0 size) in
    let v = written_at old offset bytes in
    same_bytes (map g (range_with_len 0 n)) (written old offset bytes)
    (omega (arith, length-map-range_with_len g 0 n, length-map-range_with_len f 0 size, length-written old offset bytes some))
    (λ k. fill-at g n k (written_past f g size n offset bytes past is w) ∙ ⊎_elim
    (λ (early : k < offset). w.before k early ∙ sym (fill-at f size k past) ∙ sym (v.before k early))
    (λ (late : offset ≤ k). ⊎_elim
    (λ (here : k < offset + length bytes).
    let at : offset + (k - offset) ≡ k = omega arith in
    ap g (sym at) ∙ w.there (k - offset) (omega arith) ∙ sym (v.there (k - offset) (omega arith)) ∙ ap (λ j. get_or (written old offset bytes) j 0) at)
    (λ (behind : offset + length bytes ≤ k). w.behind k behind ∙ sym (fill-at f size k past) ∙ sym (v.behind k behind))
    (cases_lt k (offset + length bytes)))
    (cases_lt k offset))

-- bytes that were read from an index on are those that a read gives
pub fill_read : (f : ℕ → ℕ) (size offset count start n : ℕ) (out : List ℕ) → ((j : ℕ) → size ≤ j → f j ≡ 0) → start ≡ min offset size → n ≡ min count (size - start) → length out ≡ n
    → ((k : ℕ) → k < length out → get_or out k 0 ≡ f (start + k)) → out ≡ take count (drop offset (map f (range_with_len 0 size)))
fill_read f size offset count start n out past from is long read =
    let xs : List ℕ = map f (range_with_len 0 size) in
    let all : length xs ≡ size = length-map-range_with_len f 0 size in
    let part : length (take count (drop offset xs)) ≡ n = omega (arith, length-take count (drop offset xs), length-drop offset xs) in
    same_lists out (take count (drop offset xs)) (long ∙ sym part)
    (λ k d h.
    let at : start + k ≡ offset + k = omega arith in
    get_or_default out k d 0 h ∙ read k h ∙ sym (fill-at f size (start + k) past) ∙ ap (λ j. get_or xs j 0) at
    ∙ sym (get_or-take count (drop offset xs) k 0 (omega arith) ∙ get_or-drop offset xs k 0)
    ∙ sym (get_or_default (take count (drop offset xs)) k d 0 (omega arith)))
