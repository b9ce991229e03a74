-- Lists of pages: lengthened, written and cut, and the bytes in them.
use Rattle.std.proofs.Common.{refl, ◌≡◌, ◌≢◌, ℕ, ◌+◌, ◌-◌, ◌*◌, ◌/◌, ◌%◌, ◌<◌, ◌≤◌, List, [], ◌∷◌, ◌++◌, length, take, drop, replicate, get_or, arith, ap, sym, ◌∙◌, ⊎_elim, length-append, length-take, length-drop, length-take-le}
use Rattle.std.proofs.Math.ListN.{set}
use Rattle.std.proofs.Math.Seq.{take-append-add}
use Prim.Native.Nat.{min, max}
use Rattle.std.specs.List.{FoldsTo}
use Rattle.std.proofs.lemmas.List.{places, get_or-take, get_or-drop, get_or-set_same, get_or-set_other, get_or_past, get_or_append_left, get_or-append_right, get_or-replicate, take_all, take_min, append_assoc, set-append_right, drop_more, take_more}
use Rattle.std.proofs.lemmas.Bool.{cases_lt, cases_eq}
use Rattle.ft_body.specs.Paging.{byte_in, page_count, EndsWithNoZero, IsWritten, IsFront, IsPage, ArePages}

-- behind the last page are zeros
pub byte_past : (pages : List (List ℕ)) (k : ℕ) → length pages ≤ k / 4096 → byte_in pages k ≡ 0
byte_past pages k h = ap (λ p. get_or p (k % 4096) 0) (get_or_past pages (k / 4096) [] h)

-- calls that each give one value
pub all_same : {F X : Type 0} (R : F → X → F → Type 0) (d : X) → ((p : F) (x : X) (q : F) → R p x q → x ≡ d) → (ys : List X) (p q : F) → FoldsTo R p ys q → ys ≡ replicate (length ys) d
all_same R d each [] p q f = refl
all_same R d each (x ∷ xs) p q f = λ i. each p x f.0 f.1 i ∷ all_same R d each xs f.0 q f.2 i

-- a list made longer by one value
pub lengthened : {X : Type 0} (xs ys new : List X) (d : X) (n count : ℕ) → new ≡ take count xs ++ ys → ys ≡ replicate (length ys) d → length new ≡ count → n ≡ length xs → n ≤ count
    → new ≡ xs ++ replicate (count - n) d
lengthened xs ys new d n count is same long size fits =
    let whole : take count xs ≡ xs = take_all count xs (omega arith) in
    let more : length ys ≡ count - n = omega (arith, ap length is, ap length whole, length-append (take count xs) ys) in
    is ∙ ap (λ zs. zs ++ ys) whole ∙ ap (λ zs. xs ++ zs) (same ∙ ap (λ m. replicate m d) more)

-- the byte at a place of a page
pub byte_at : (pages : List (List ℕ)) (k i j : ℕ) → k ≡ i * 4096 + j → j < 4096 → byte_in pages k ≡ get_or (get_or pages i []) j 0
byte_at pages k i j e h =
    let page : k / 4096 ≡ i = omega arith in
    let place : k % 4096 ≡ j = omega arith in
    ap (λ p. get_or (get_or pages p []) (k % 4096) 0) page ∙ ap (λ q. get_or (get_or pages i []) q 0) place

-- where one page is replaced, the bytes of the others stay
byte_at_other : (pages : List (List ℕ)) (page : List ℕ) (i k : ℕ) → k / 4096 ≢ i → byte_in (set pages i page) k ≡ byte_in pages k
byte_at_other pages page i k h = ap (λ p. get_or p (k % 4096) 0) (get_or-set_other pages i (k / 4096) page [] h)

-- and its own are those of the new one
byte_at_set : (pages : List (List ℕ)) (page : List ℕ) (i k : ℕ) → i < length pages → k / 4096 ≡ i → byte_in (set pages i page) k ≡ get_or page (k % 4096) 0
byte_at_set pages page i k h e = ap (λ p. get_or (get_or (set pages i page) p []) (k % 4096) 0) e ∙ ap (λ p. get_or p (k % 4096) 0) (get_or-set_same pages i page [] h)

byte_at_was : (pages : List (List ℕ)) (i k : ℕ) → k / 4096 ≡ i → byte_in pages k ≡ get_or (get_or pages i []) (k % 4096) 0
byte_at_was pages i k e = ap (λ p. get_or (get_or pages p []) (k % 4096) 0) e

-- to write one page is to write the bytes of all
pub written_page : (pages : List (List ℕ)) (page : List ℕ) (i start from : ℕ) (part : List ℕ) → i < length pages → start + length part ≤ 4096 → from ≡ i * 4096 + start
    → IsWritten (λ k. get_or (get_or pages i []) k 0) (λ k. get_or page k 0) start part → IsWritten (byte_in pages) (byte_in (set pages i page)) from part
written_page pages page i start from part h fits e w = record {
  before = λ k g. ⊎_elim
      (λ (here : k / 4096 ≡ i). byte_at_set pages page i k h here ∙ w.before (k % 4096) (omega arith) ∙ sym (byte_at_was pages i k here))
      (λ (other : k / 4096 ≢ i). byte_at_other pages page i k other) (cases_eq (k / 4096) i);
  there = λ k g. byte_at_set pages page i (from + k) h (omega arith) ∙ ap (λ j. get_or page j 0) (let place : (from + k) % 4096 ≡ start + k = omega arith in place) ∙ w.there k g;
  behind = λ k g. ⊎_elim
      (λ (here : k / 4096 ≡ i). byte_at_set pages page i k h here ∙ w.behind (k % 4096) (omega arith) ∙ sym (byte_at_was pages i k here))
      (λ (other : k / 4096 ≢ i). byte_at_other pages page i k other) (cases_eq (k / 4096) i);
}

-- bytes that are written one part after another
pub written_on : (f g h : ℕ → ℕ) (offset m n next : ℕ) (bytes part : List ℕ) → next ≡ offset + m → m ≤ length bytes → part ≡ take n (drop m bytes)
    → IsWritten f g offset (take m bytes) → IsWritten g h next part → IsWritten f h offset (take (m + n) bytes)
written_on f g h offset m n next bytes part e fits is first then =
    let front : length (take m bytes) ≡ m = length-take-le m bytes fits in
    let more : length part ≡ min n (length bytes - m) = omega (arith, ap length is, length-take n (drop m bytes), length-drop m bytes) in
    let all : length (take (m + n) bytes) ≡ min (m + n) (length bytes) = length-take (m + n) bytes in record {
      before = λ k l. then.before k (omega arith) ∙ first.before k l;
      there = λ k l. ⊎_elim
          (λ (early : k < m). then.before (offset + k) (omega arith) ∙ first.there k (omega arith) ∙ get_or-take m bytes k 0 early ∙ sym (get_or-take (m + n) bytes k 0 (omega arith)))
          (λ (late : m ≤ k). ap h (let same : offset + k ≡ next + (k - m) = omega arith in same) ∙ then.there (k - m) (omega arith) ∙ ap (λ zs. get_or zs (k - m) 0) is
          ∙ get_or-take n (drop m bytes) (k - m) 0 (omega arith) ∙ get_or-drop m bytes (k - m) 0 ∙ ap (λ j. get_or bytes j 0) (let same : m + (k - m) ≡ k = omega arith in same)
          ∙ sym (get_or-take (m + n) bytes k 0 (omega arith)))
          (cases_lt k m);
      behind = λ k l. then.behind k (omega arith) ∙ first.behind k (omega arith);
    }

-- nothing has been written
pub written_none : (f : ℕ → ℕ) (offset : ℕ) → IsWritten f f offset []
written_none f offset = record { before = λ k h. refl; there = λ k h. absurd (omega arith); behind = λ k h. refl }

-- as many bytes as there are
pub take_enough : (bytes : List ℕ) (m n : ℕ) → min m (length bytes) ≡ min n (length bytes) → take m bytes ≡ take n bytes
take_enough bytes m n e = sym (take_min m bytes) ∙ ap (λ k. take k bytes) e ∙ take_min n bytes

-- a step of a write, page by page
pub written_step : (old pages : List (List ℕ)) (page : List ℕ) (offset i from to : ℕ) (bytes part : List ℕ) → i < length pages
    → from ≡ max offset (i * 4096) → to ≡ min (offset + length bytes) ((i + 1) * 4096) → from ≤ to → part ≡ take (to - from) (drop (from - offset) bytes)
    → IsWritten (byte_in old) (byte_in pages) offset (take (i * 4096 - offset) bytes)
    → IsWritten (λ k. get_or (get_or pages i []) k 0) (λ k. get_or page k 0) (from - i * 4096) part
    → IsWritten (byte_in old) (byte_in (set pages i page)) offset (take ((i + 1) * 4096 - offset) bytes)
written_step old pages page offset i from to bytes part h starts ends some is first then =
    let more : length part ≡ min (to - from) (length bytes - (from - offset)) = omega (arith, ap length is, length-take (to - from) (drop (from - offset) bytes), length-drop (from - offset) bytes) in
    let at : i * 4096 - offset ≡ from - offset = omega arith in
    let end : min ((from - offset) + (to - from)) (length bytes) ≡ min ((i + 1) * 4096 - offset) (length bytes) = omega arith in
    let so_far : IsWritten (byte_in old) (byte_in pages) offset (take (from - offset) bytes) = rw (← at) first in
    let done = written_on (byte_in old) (byte_in pages) (byte_in (set pages i page)) offset (from - offset) (to - from) from bytes part (omega arith) (omega arith) is so_far
    (written_page pages page i (from - i * 4096) from part h (omega arith) (omega arith) then) in
    rw (take_enough bytes ((i + 1) * 4096 - offset) ((from - offset) + (to - from)) (sym end)) done

-- a page among pages that is replaced by one
pub pages_set : (pages : List (List ℕ)) (i : ℕ) (page : List ℕ) → i < length pages → ArePages pages → IsPage page → ArePages (set pages i page)
pages_set pages i page h each is j = ⊎_elim
    (λ (here : j ≡ i). let same : get_or (set pages i page) j [] ≡ page = ap (λ k. get_or (set pages i page) k []) here ∙ get_or-set_same pages i page [] h in rw same is)
    (λ (other : j ≢ i). rw (get_or-set_other pages i j page [] other) (each j)) (cases_eq j i)

-- a hole behind pages changes no byte, and is a page
pub get_or-holes : (pages : List (List ℕ)) (n i : ℕ) → get_or (pages ++ replicate n []) i [] ≡ get_or pages i []
get_or-holes pages n i = ⊎_elim (λ (h : i < length pages). grind (arith, places))
    (λ (h : length pages ≤ i). ⊎_elim (λ (g : i < length pages + n). grind (arith, places)) (λ (g : length pages + n ≤ i). grind (arith, places)) (cases_lt i (length pages + n)))
    (cases_lt i (length pages))

-- a step of a read, page by page: the bytes that are kept of a page, and zeros behind them
read_there : (pages : List (List ℕ)) (page out part new : List ℕ) (start i from to k : ℕ) → page ≡ get_or pages i [] → to ≤ 4096 → start + length out ≡ i * 4096 + from
    → part ≡ take (min to (length page) - min from (length page)) (drop (min from (length page)) page) → new ≡ take (i * 4096 + to - start) (out ++ part) ++ replicate (i * 4096 + to - start - length (out ++ part)) 0
    → length out ≤ k → k < i * 4096 + to - start → get_or new k 0 ≡ byte_in pages (start + k)
read_there pages page out part new start i from to k found fits at is gives late h =
    let j : ℕ = k - length out in
    let size : length part ≡ min to (length page) - min from (length page) =
    omega (arith, ap length is, length-take (min to (length page) - min from (length page)) (drop (min from (length page)) page), length-drop (min from (length page)) page) in
    let all : length (out ++ part) ≡ length out + length part = length-append out part in
    let whole : take (i * 4096 + to - start) (out ++ part) ≡ out ++ part = take_all (i * 4096 + to - start) (out ++ part) (omega arith) in
    let there : byte_in pages (start + k) ≡ get_or page (from + j) 0 = byte_at pages (start + k) i (from + j) (omega arith) (omega arith) ∙ ap (λ p. get_or p (from + j) 0) (sym found) in
    ap (λ zs. get_or zs k 0) (gives ∙ ap (λ zs. zs ++ replicate (i * 4096 + to - start - length (out ++ part)) 0) whole) ∙ ⊎_elim
    (λ (kept : j < length part).
    get_or_append_left (out ++ part) (replicate (i * 4096 + to - start - length (out ++ part)) 0) 0 k (omega arith) ∙ get_or-append_right out part (length out) k 0 refl late
    ∙ ap (λ zs. get_or zs j 0) is ∙ get_or-take (min to (length page) - min from (length page)) (drop (min from (length page)) page) j 0 (omega arith)
    ∙ get_or-drop (min from (length page)) page j 0 ∙ ap (λ n. get_or page n 0) (let same : min from (length page) + j ≡ from + j = omega arith in same) ∙ sym there)
    (λ (zero : length part ≤ j).
    get_or-append_right (out ++ part) (replicate (i * 4096 + to - start - length (out ++ part)) 0) (length (out ++ part)) k 0 refl (omega arith)
    ∙ get_or-replicate (i * 4096 + to - start - length (out ++ part)) (k - length (out ++ part)) 0 0 (omega arith)
    ∙ sym (there ∙ get_or_past page (from + j) 0 (omega arith)))
    (cases_lt j (length part))

-- and those that were read before
pub read_before : (out part new : List ℕ) (n k : ℕ) → new ≡ take n (out ++ part) ++ replicate (n - length (out ++ part)) 0 → k < length out → length out ≤ n → get_or new k 0 ≡ get_or out k 0
read_before out part new n k gives h l =
    let long : length (take n (out ++ part)) ≡ min n (length out + length part) = length-take n (out ++ part) ∙ ap (min n) (length-append out part) in
    ap (λ zs. get_or zs k 0) gives ∙ get_or_append_left (take n (out ++ part)) (replicate (n - length (out ++ part)) 0) 0 k (omega arith)
    ∙ get_or-take n (out ++ part) k 0 (omega arith) ∙ get_or_append_left out part 0 k h

pub read_step : (pages : List (List ℕ)) (page out part new : List ℕ) (start i from to : ℕ) → page ≡ get_or pages i [] → to ≤ 4096 → from ≤ to → start + length out ≡ i * 4096 + from
    → part ≡ take (min to (length page) - min from (length page)) (drop (min from (length page)) page) → new ≡ take (i * 4096 + to - start) (out ++ part) ++ replicate (i * 4096 + to - start - length (out ++ part)) 0
    → ((k : ℕ) → k < length out → get_or out k 0 ≡ byte_in pages (start + k)) → (k : ℕ) → k < i * 4096 + to - start → get_or new k 0 ≡ byte_in pages (start + k)
read_step pages page out part new start i from to found fits order at is gives done k h = ⊎_elim
    (λ (early : k < length out). read_before out part new (i * 4096 + to - start) k gives early (omega arith) ∙ done k early)
    (λ (late : length out ≤ k). read_there pages page out part new start i from to k found fits at is gives late h)
    (cases_lt k (length out))

-- what stands behind a front of the other list
swapped-at : {X : Type 0} (xs ys : List X) (i : ℕ) (d : X) → i < length xs → get_or (take i xs ++ drop i ys) i d ≡ get_or ys i d
swapped-at xs ys i d h = grind (arith, places)

-- a step of swapping the fronts of two lists
pub swap_step : {X : Type 0} (xs ys now others : List X) (i : ℕ) (x d : X) → i < length xs → i < length ys → now ≡ take i ys ++ drop i xs → others ≡ take i xs ++ drop i ys
    → x ≡ get_or others i d → set now i x ≡ take (i + 1) ys ++ drop (i + 1) xs
swap_step xs ys now others i x d h g is are read =
    let from : x ≡ get_or ys i d = read ∙ ap (λ zs. get_or zs i d) are ∙ swapped-at xs ys i d h in
    let zero : i - i ≡ 0 = omega arith in
    ap (λ zs. set zs i x) is ∙ set-append_right (take i ys) (drop i xs) i i x (length-take-le i ys (omega arith)) (omega arith)
    ∙ ap (λ zs. take i ys ++ zs) (ap (λ n. set (drop i xs) n x) zero ∙ ap (λ zs. set zs 0 x) (drop_more xs i d h))
    ∙ ap (λ y. take i ys ++ y ∷ drop (i + 1) xs) from
    ∙ sym (append_assoc (take i ys) (get_or ys i d ∷ []) (drop (i + 1) xs)) ∙ ap (λ zs. zs ++ drop (i + 1) xs) (sym (take_more ys i d g))

-- holes behind pages change no byte
pub byte_in-holes : (pages : List (List ℕ)) (n k : ℕ) → byte_in (pages ++ replicate n []) k ≡ byte_in pages k
byte_in-holes pages n k = ap (λ page. get_or page (k % 4096) 0) (get_or-holes pages n (k / 4096))

-- what is written to bytes is written to equal ones
pub written_same : (f f' g : ℕ → ℕ) (start : ℕ) (bytes : List ℕ) → ((k : ℕ) → f k ≡ f' k) → IsWritten f g start bytes → IsWritten f' g start bytes
written_same f f' g start bytes same w = record { before = λ k h. w.before k h ∙ same k; there = w.there; behind = λ k h. w.behind k h ∙ same k }

-- pages that are cut: those before the last stay, and of the last its front
pub cut_bytes : (pages new : List (List ℕ)) (size kept : ℕ) → kept ≡ size / 4096 → length new ≡ page_count size
    → ((i : ℕ) → i < kept → get_or new i [] ≡ get_or pages i [])
    → (kept < length new → IsFront (λ k. get_or (get_or pages kept []) k 0) (λ k. get_or (get_or new kept []) k 0) (size - kept * 4096))
    → IsFront (byte_in pages) (byte_in new) size
cut_bytes pages new size kept at count same last = record {
  before = λ k h. ⊎_elim
      (λ (early : k / 4096 < kept). ap (λ page. get_or page (k % 4096) 0) (same (k / 4096) early))
      (λ (late : kept ≤ k / 4096). byte_at_was new kept k (omega arith) ∙ (last (omega arith)).before (k % 4096) (omega arith) ∙ sym (byte_at_was pages kept k (omega arith)))
      (cases_lt (k / 4096) kept);
  zeros = λ k h. ⊎_elim
      (λ (there : k / 4096 < length new). byte_at_was new kept k (omega arith) ∙ (last (omega arith)).zeros (k % 4096) (omega arith))
      (λ (past : length new ≤ k / 4096). byte_past new k past)
      (cases_lt (k / 4096) (length new));
}

-- and each is a page
pub cut_pages : (pages new : List (List ℕ)) (kept : ℕ) → length new ≤ kept + 1 → ((i : ℕ) → i < kept → get_or new i [] ≡ get_or pages i [])
    → ArePages pages → (kept < length new → IsPage (get_or new kept [])) → ArePages new
cut_pages pages new kept count same each last i = ⊎_elim
    (λ (early : i < kept). rw (same i early) (each i))
    (λ (late : kept ≤ i). ⊎_elim
    (λ (there : i < length new). let is : i ≡ kept = omega arith in rw is (last (omega arith)))
    (λ (past : length new ≤ i). rw (get_or_past new i [] past) hole_is_page) (cases_lt i (length new)))
    (cases_lt i kept)
  where
    hole_is_page : IsPage []
    hole_is_page = record { fits = omega arith; no_end_zero = λ h. absurd (omega arith) }

-- a front of one list, and what stands behind it in another
pub cut_count : {X : Type 0} (pages front new : List X) (kept : ℕ) → new ≡ take kept pages ++ drop kept front → kept ≤ length pages → kept ≤ length front → length new ≡ length front
cut_count pages front new kept is h g = ap length is ∙ grind (arith, places)

pub cut_front : {X : Type 0} (pages front new : List X) (kept i : ℕ) (d : X) → new ≡ take kept pages ++ drop kept front → kept ≤ length pages → i < kept → get_or new i d ≡ get_or pages i d
cut_front pages front new kept i d is h g = ap (λ zs. get_or zs i d) is ∙ grind (arith, places)

pub cut_last : {X : Type 0} (pages front new : List X) (kept : ℕ) (d : X) → new ≡ take kept pages ++ drop kept front → kept ≤ length pages → kept < length front → get_or new kept d ≡ get_or front kept d
cut_last pages front new kept d is h g = ap (λ zs. get_or zs kept d) is ∙ grind (arith, places)

-- where the bytes before an index end, page by page from the last on
pub end_zeros : (pages : List (List ℕ)) (page : List ℕ) (i size m end k : ℕ) → page ≡ get_or pages i [] → m ≡ min (length page) (size - i * 4096)
    → ((j : ℕ) → end ≤ j → get_or (take m page) j 0 ≡ 0) → i * 4096 + end ≤ k → k < (i + 1) * 4096 → k < size → byte_in pages k ≡ 0
end_zeros pages page i size m end k found is zeros from to below =
    let j : ℕ = k - i * 4096 in
    byte_at pages k i j (omega arith) (omega arith) ∙ ap (λ p. get_or p j 0) (sym found) ∙ ⊎_elim
    (λ (kept : j < m). sym (get_or-take m page j 0 kept) ∙ zeros j (omega arith))
    (λ (past : m ≤ j). get_or_past page j 0 (omega arith))
    (cases_lt j m)

pub end_last : (pages : List (List ℕ)) (page front : List ℕ) (i m : ℕ) → page ≡ get_or pages i [] → length page ≤ 4096 → front ≡ take (length front) (take m page) → length front ≤ length (take m page)
    → EndsWithNoZero front → 0 < length front → byte_in pages (i * 4096 + length front - 1) ≢ 0
end_last pages page front i m found fits is within last some e =
    let j : ℕ = length front - 1 in
    let size : length (take m page) ≡ min m (length page) = length-take m page in
    let there : get_or front j 0 ≡ get_or page j 0 = ap (λ zs. get_or zs j 0) is ∙ get_or-take (length front) (take m page) j 0 (omega arith) ∙ get_or-take m page j 0 (omega arith) in
    last some (there ∙ ap (λ p. get_or p j 0) found ∙ sym (byte_at pages (i * 4096 + length front - 1) i j (omega arith) (omega arith)) ∙ e)

-- what was read stands behind what was there
pub read_behind : (old out part new : List ℕ) (m n : ℕ) → new ≡ take m (old ++ out ++ part) ++ replicate (m - length (old ++ out ++ part)) 0 → m ≡ length old + n
    → new ≡ old ++ (take n (out ++ part) ++ replicate (n - length (out ++ part)) 0)
read_behind old out part new m n gives at =
    let rest : List ℕ = out ++ part in
    let apart : old ++ out ++ part ≡ old ++ rest = append_assoc old out part in
    let left : m - length (old ++ rest) ≡ n - length rest = omega (arith, length-append old rest) in
    gives ∙ ap (λ zs. take m zs ++ replicate (m - length zs) 0) apart
    ∙ ap (λ k. take k (old ++ rest) ++ replicate (m - length (old ++ rest)) 0) at
    ∙ ap (λ zs. zs ++ replicate (m - length (old ++ rest)) 0) (take-append-add old rest n)
    ∙ ap (λ k. old ++ take n rest ++ replicate k 0) left
    ∙ append_assoc old (take n rest) (replicate (n - length rest) 0)
