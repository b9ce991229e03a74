-- A text of bytes that is read as words, and how such texts compare.
use Rattle.std.proofs.Common.{◌≡◌, ◌≤◌, ◌<◌, ◌+◌, ◌*◌, ℕ, zero, suc, Bool, true, false, ◌||◌, List, [], ◌∷◌, length, take, drop, refl, sym, ap, subst, ◌∙◌, arith, length-drop, get_or}
use Rattle.std.proofs.lemmas.List.{length-take, take_all, drop-take, drop-drop}
use Rattle.std.proofs.Math.Seq.{take-nil}
use Rattle.std.specs.Prelude.{◌==◌, nat_eq}
use Rattle.std.specs.Ordering.{nat_cmp, ordering_then, MatchOrdering}
use Rattle.std.specs.declared.cmp.Ordering.{Ordering}
use Rattle.std.specs.declared.cmp.Ordering.TheVariants.{Less, Equal, Greater}
use Rattle.std.specs.Cmp.{ranks}
use Rattle.std.specs.Cmp.Lexicographic.{slice_cmp, nat_list_cmp_total}
use Rattle.std.proofs.lemmas.Cmp.{tied_itself}
use Rattle.std.proofs.lemmas.Bool.{false≢true}
use Rattle.std.proofs.lemmas.Bool.Decides.{Decides-eqb}
use Rattle.std.proofs.lemmas.Map.Lookups.{exact_bytes}
use Rattle.ft_path.specs.Name.{IsNulFree}
use Rattle.ft_path.specs.Kept.{AreZeros, IsPadded, Fits, kept}
use Rattle.ft_path.specs.declared.bytes.Bytes.{Bytes}
use Rattle.ft_path.specs.declared.bytes.Bytes.TheVariants.{Short}
use Rattle.std.specs.Bool.{Decides}
use Rattle.ft_path.specs.Front.{with_digits, front_of, AreBytes}

-- what began less stays less
below : (count a b : ℕ) (xs ys : List ℕ) → AreBytes xs → AreBytes ys → a < b → with_digits count a xs < with_digits count b ys
below zero a b xs ys p q less = less
below (suc count) a b [] [] p q less = below count (a * 256) (b * 256) [] [] p q (omega arith)
below (suc count) a b [] (y ∷ ys) p q less = below count (a * 256) (b * 256 + y) [] ys p q.1 (omega arith)
below (suc count) a b (x ∷ xs) [] p q less = below count (a * 256 + x) (b * 256) xs [] p.1 q (let fits = p.0 in omega arith)
below (suc count) a b (x ∷ xs) (y ∷ ys) p q less = below count (a * 256 + x) (b * 256 + y) xs ys p.1 q.1 (let fits = p.0 in omega arith)

cmp_less : (a b : ℕ) → a < b → nat_cmp a b ≡ Less
cmp_less a b less = by_order (nat_cmp a b) (ranks a b)
  where
    by_order : (r : Ordering) → MatchOrdering r (a < b) (a ≡ b) (b < a) → r ≡ Less
    by_order Less h = refl
    by_order Equal h = absurd (omega arith)
    by_order Greater h = absurd (omega arith)

cmp_greater : (a b : ℕ) → b < a → nat_cmp a b ≡ Greater
cmp_greater a b more = by_order (nat_cmp a b) (ranks a b)
  where
    by_order : (r : Ordering) → MatchOrdering r (a < b) (a ≡ b) (b < a) → r ≡ Greater
    by_order Less h = absurd (omega arith)
    by_order Equal h = absurd (omega arith)
    by_order Greater h = refl

cmp_self : (a : ℕ) → nat_cmp a a ≡ Equal
cmp_self a = by_order (nat_cmp a a) (ranks a a)
  where
    by_order : (r : Ordering) → MatchOrdering r (a < a) (a ≡ a) (a < a) → r ≡ Equal
    by_order Less h = absurd (omega arith)
    by_order Equal h = refl
    by_order Greater h = absurd (omega arith)

-- a word compares as its bytes do
word_cmp : (count a : ℕ) (xs ys : List ℕ) → AreBytes xs → AreBytes ys → count ≤ length xs → count ≤ length ys
    → nat_cmp (with_digits count a xs) (with_digits count a ys) ≡ slice_cmp nat_cmp (take count xs) (take count ys)
word_cmp zero a xs ys p q long far = cmp_self a
word_cmp (suc count) a [] ys p q long far = absurd (omega arith)
word_cmp (suc count) a (x ∷ xs) [] p q long far = absurd (omega arith)
word_cmp (suc count) a (x ∷ xs) (y ∷ ys) p q long far = by_first (nat_cmp x y) (ranks x y) (word_cmp count (a * 256 + x) xs ys p.1 q.1 (omega arith) (omega arith))
  where
    by_first : (r : Ordering) → MatchOrdering r (x < y) (x ≡ y) (y < x)
        → nat_cmp (with_digits count (a * 256 + x) xs) (with_digits count (a * 256 + x) ys) ≡ slice_cmp nat_cmp (take count xs) (take count ys)
        → nat_cmp (with_digits count (a * 256 + x) xs) (with_digits count (a * 256 + y) ys) ≡ ordering_then r (slice_cmp nat_cmp (take count xs) (take count ys))
    by_first Less h rest = cmp_less _ _ (below count (a * 256 + x) (a * 256 + y) xs ys p.1 q.1 (omega arith))
    by_first Equal h rest = ap (λ n. nat_cmp (with_digits count (a * 256 + x) xs) (with_digits count (a * 256 + n) ys)) (sym h) ∙ rest
    by_first Greater h rest = cmp_greater _ _ (below count (a * 256 + y) (a * 256 + x) ys xs q.1 p.1 (omega arith))

then_assoc : (a b c : Ordering) → ordering_then (ordering_then a b) c ≡ ordering_then a (ordering_then b c)
then_assoc Less b c = refl
then_assoc Equal b c = refl
then_assoc Greater b c = refl

-- what is equally far in front is compared first
split_cmp : (n : ℕ) (xs ys : List ℕ) → n ≤ length xs → n ≤ length ys
    → slice_cmp nat_cmp xs ys ≡ ordering_then (slice_cmp nat_cmp (take n xs) (take n ys)) (slice_cmp nat_cmp (drop n xs) (drop n ys))
split_cmp zero xs ys long far = refl
split_cmp (suc n) [] ys long far = absurd (omega arith)
split_cmp (suc n) (x ∷ xs) [] long far = absurd (omega arith)
split_cmp (suc n) (x ∷ xs) (y ∷ ys) long far =
    ap (ordering_then (nat_cmp x y)) (split_cmp n xs ys (omega arith) (omega arith)) ∙ sym (then_assoc (nat_cmp x y) _ _)

-- the first that is not a tie decides
pub then_decided : (r s : Ordering) → (r ≡ Equal → ⊥) → ordering_then r s ≡ r
then_decided Less s apart = refl
then_decided Equal s apart = absurd (apart refl)
then_decided Greater s apart = refl

pub then_tied : (r s : Ordering) → r ≡ Equal → ordering_then r s ≡ s
then_tied r s tied = ap (λ o. ordering_then o s) tied

bytes_behind : (n : ℕ) (xs : List ℕ) → AreBytes xs → AreBytes (drop n xs)
bytes_behind zero xs p = p
bytes_behind (suc n) [] p = p
bytes_behind (suc n) (x ∷ xs) p = bytes_behind n xs p.1

-- a word of a place compares as its bytes do
word_at_cmp : (n : ℕ) (xs ys : List ℕ) → length xs ≡ 22 → length ys ≡ 22 → AreBytes xs → AreBytes ys → n ≤ 14
    → nat_cmp (front_of (drop n xs)) (front_of (drop n ys)) ≡ slice_cmp nat_cmp (take 8 (drop n xs)) (take 8 (drop n ys))
word_at_cmp n xs ys long far p q within =
    word_cmp 8 0 (drop n xs) (drop n ys) (bytes_behind n xs p) (bytes_behind n ys q)
    (omega (arith, length-drop n xs, long)) (omega (arith, length-drop n ys, far))

-- where the words in front of it are equal, the last word compares as what they leave
last_cmp : (xs ys : List ℕ) → length xs ≡ 22 → length ys ≡ 22 → AreBytes xs → AreBytes ys
    → slice_cmp nat_cmp (take 8 (drop 8 xs)) (take 8 (drop 8 ys)) ≡ Equal
    → nat_cmp (front_of (drop 14 xs)) (front_of (drop 14 ys)) ≡ slice_cmp nat_cmp (drop 16 xs) (drop 16 ys)
last_cmp xs ys long far p q tied =
    word_at_cmp 14 xs ys long far p q (omega arith)
    ∙ ap (λ zs. slice_cmp nat_cmp zs (take 8 (drop 14 ys))) (all_of xs long)
    ∙ ap (λ zs. slice_cmp nat_cmp (drop 14 xs) zs) (all_of ys far)
    ∙ split_cmp 2 (drop 14 xs) (drop 14 ys) (omega (arith, length-drop 14 xs, long)) (omega (arith, length-drop 14 ys, far))
    ∙ then_tied _ _ (ap (λ zs. slice_cmp nat_cmp zs (take 2 (drop 14 ys))) (shared xs) ∙ ap (λ zs. slice_cmp nat_cmp (drop 6 (take 8 (drop 8 xs))) zs) (shared ys)
    ∙ ap (λ zs. slice_cmp nat_cmp (drop 6 zs) (drop 6 (take 8 (drop 8 ys)))) {x = take 8 (drop 8 xs)} {y = take 8 (drop 8 ys)} (exact_bytes _ _ tied) ∙ tied_itself nat_list_cmp_total (drop 6 (take 8 (drop 8 ys))))
    ∙ ap (λ zs. slice_cmp nat_cmp zs (drop 2 (drop 14 ys))) (drop-drop 2 14 xs) ∙ ap (λ zs. slice_cmp nat_cmp (drop 16 xs) zs) (drop-drop 2 14 ys)
  where
    all_of : (zs : List ℕ) → length zs ≡ 22 → take 8 (drop 14 zs) ≡ drop 14 zs
    all_of zs is = take_all 8 (drop 14 zs) (omega (arith, length-drop 14 zs, is))

    shared : (zs : List ℕ) → take 2 (drop 14 zs) ≡ drop 6 (take 8 (drop 8 zs))
    shared zs = ap (take 2) (sym (drop-drop 6 8 zs)) ∙ sym (drop-take 6 2 (drop 8 zs))

are_bytes : (xs : List ℕ) → ((i : ℕ) → get_or xs i 0 < 256) → AreBytes xs
are_bytes [] h = tt
are_bytes (x ∷ xs) h = (h zero, are_bytes xs (λ i. h (suc i)))

-- a place compares as its words in turn
pub place_cmp : (xs ys : List ℕ) → length xs ≡ 22 → length ys ≡ 22 → ((i : ℕ) → get_or xs i 0 < 256) → ((i : ℕ) → get_or ys i 0 < 256)
    → slice_cmp nat_cmp xs ys
    ≡ ordering_then (nat_cmp (front_of xs) (front_of ys)) (ordering_then (nat_cmp (front_of (drop 8 xs)) (front_of (drop 8 ys))) (nat_cmp (front_of (drop 14 xs)) (front_of (drop 14 ys))))
place_cmp xs ys long far small little =
    let p = are_bytes xs small in
    let q = are_bytes ys little in
    split_cmp 8 xs ys (omega (arith, long)) (omega (arith, far))
    ∙ ap (λ o. ordering_then o (slice_cmp nat_cmp (drop 8 xs) (drop 8 ys))) (sym (word_at_cmp 0 xs ys long far p q (omega arith)))
    ∙ ap (ordering_then (nat_cmp (front_of xs) (front_of ys)))
    (split_cmp 8 (drop 8 xs) (drop 8 ys) (omega (arith, length-drop 8 xs, long)) (omega (arith, length-drop 8 ys, far))
    ∙ by_second p q _ refl
    ∙ ap (λ o. ordering_then o (nat_cmp (front_of (drop 14 xs)) (front_of (drop 14 ys)))) (sym (word_at_cmp 8 xs ys long far p q (omega arith))))
  where
    by_second : AreBytes xs → AreBytes ys → (r : Ordering) → slice_cmp nat_cmp (take 8 (drop 8 xs)) (take 8 (drop 8 ys)) ≡ r
        → ordering_then r (slice_cmp nat_cmp (drop 8 (drop 8 xs)) (drop 8 (drop 8 ys))) ≡ ordering_then r (nat_cmp (front_of (drop 14 xs)) (front_of (drop 14 ys)))
    by_second p q Less is = refl
    by_second p q Equal is =
        ap (λ zs. slice_cmp nat_cmp zs (drop 8 (drop 8 ys))) (drop-drop 8 8 xs) ∙ ap (λ zs. slice_cmp nat_cmp (drop 16 xs) zs) (drop-drop 8 8 ys)
        ∙ sym (last_cmp xs ys long far p q is)
    by_second p q Greater is = refl

-- two places of the same words are equal
pub place_same : (xs ys : List ℕ) → length xs ≡ 22 → length ys ≡ 22 → ((i : ℕ) → get_or xs i 0 < 256) → ((i : ℕ) → get_or ys i 0 < 256)
    → front_of xs ≡ front_of ys → front_of (drop 8 xs) ≡ front_of (drop 8 ys) → front_of (drop 14 xs) ≡ front_of (drop 14 ys) → xs ≡ ys
place_same xs ys long far p q first second last =
    exact_bytes xs ys (place_cmp xs ys long far p q
    ∙ then_tied _ _ (tied first) ∙ then_tied _ _ (tied second) ∙ tied last)
  where
    tied : {a b : ℕ} → a ≡ b → nat_cmp a b ≡ Equal
    tied {a} {b} same = ap (nat_cmp a) (sym same) ∙ cmp_self a

both_false : (a b : Bool) → (a || b) ≡ false → (a ≡ false) × (b ≡ false)
both_false true b is = absurd (false≢true (sym is))
both_false false b is = (refl, is)

some_byte : (byte : ℕ) → (byte == 0) ≡ false → 0 < byte
some_byte zero is = absurd (false≢true (sym is))
some_byte (suc byte) is = omega arith

either : (x : ℕ) (xs : List ℕ) → IsNulFree (x ∷ xs) → (x == 0) ≡ false
either x xs free = (both_false (x == 0) _ free).0

others : (x : ℕ) (xs : List ℕ) → IsNulFree (x ∷ xs) → IsNulFree xs
others x xs free = (both_false (x == 0) _ free).1

-- zeros that stand behind texts without a null byte change nothing of how they compare
pub kept_cmp : (n m : ℕ) (xs ys : List ℕ) → length xs ≡ length ys → AreZeros (drop n xs) → AreZeros (drop m ys) → IsNulFree (take n xs) → IsNulFree (take m ys)
    → slice_cmp nat_cmp (take n xs) (take m ys) ≡ slice_cmp nat_cmp xs ys
kept_cmp n m [] [] long f g p q = ap (λ zs. slice_cmp nat_cmp zs (take m [])) (take-nil n) ∙ ap (λ zs. slice_cmp nat_cmp [] zs) (take-nil m)
kept_cmp n m [] (y ∷ ys) long f g p q = absurd (omega (arith, long))
kept_cmp n m (x ∷ xs) [] long f g p q = absurd (omega (arith, long))
kept_cmp zero zero (x ∷ xs) (y ∷ ys) long f g p q =
    sym (ap (λ o. ordering_then o (slice_cmp nat_cmp xs ys)) (ap (nat_cmp x) (g.0 ∙ sym f.0) ∙ cmp_self x) ∙ sym (kept_cmp zero zero xs ys (omega (arith, long)) f.1 g.1 refl refl))
kept_cmp zero (suc m) (x ∷ xs) (y ∷ ys) long f g p q = sym (ap (λ o. ordering_then o (slice_cmp nat_cmp xs ys)) (cmp_less x y (let none = f.0 in let some = some_byte y (either y (take m ys) q) in omega arith)))
kept_cmp (suc n) zero (x ∷ xs) (y ∷ ys) long f g p q = sym (ap (λ o. ordering_then o (slice_cmp nat_cmp xs ys)) (cmp_greater x y (let none = g.0 in let some = some_byte x (either x (take n xs) p) in omega arith)))
kept_cmp (suc n) (suc m) (x ∷ xs) (y ∷ ys) long f g p q =
    ap (ordering_then (nat_cmp x y)) (kept_cmp n m xs ys (omega (arith, long)) f g (others x (take n xs) p) (others y (take m ys) q))

-- how numbers compare that are known to be others
pub cmp_along : {r : Ordering} {a b x y : ℕ} → r ≡ nat_cmp a b → a ≡ x → b ≡ y → r ≡ nat_cmp x y
cmp_along {r} {a} {b} {x} {y} is left right = is ∙ ap (λ n. nat_cmp n b) left ∙ ap (nat_cmp x) right

-- texts that stand in equal places are equal, and their places too where they are as long
pub same_kept : (n : ℕ) (xs ys : List ℕ) → length xs ≡ length ys → AreZeros (drop n xs) → AreZeros (drop n ys) → take n xs ≡ take n ys → xs ≡ ys
same_kept n [] [] long f g same = refl
same_kept n [] (y ∷ ys) long f g same = absurd (omega (arith, long))
same_kept n (x ∷ xs) [] long f g same = absurd (omega (arith, long))
same_kept zero (x ∷ xs) (y ∷ ys) long f g same = λ i. (f.0 ∙ sym g.0) i ∷ same_kept zero xs ys (omega (arith, long)) f.1 g.1 refl i
same_kept (suc n) (x ∷ xs) (y ∷ ys) long f g same =
    let heads : x ≡ y = ap (λ zs. get_or zs 0 0) same in
    λ i. heads i ∷ same_kept n xs ys (omega (arith, long)) f g (ap (drop 1) same) i

-- names in place compare as their places
pub short_cmp : {a b : Bytes} {n m : ℕ} {xs ys : List ℕ} → a ≡ Short n xs → b ≡ Short m ys → Fits a → Fits b → IsNulFree (kept a) → IsNulFree (kept b)
    → slice_cmp nat_cmp xs ys ≡ slice_cmp nat_cmp (kept a) (kept b)
short_cmp {a} {b} {n} {m} {xs} {ys} left right f g free clear =
    let p : IsPadded n xs = subst Fits left f in
    let q : IsPadded m ys = subst Fits right g in
    sym (ap (λ (c : Bytes). slice_cmp nat_cmp (kept c) (kept b)) left ∙ ap (λ (c : Bytes). slice_cmp nat_cmp (take n xs) (kept c)) right
    ∙ kept_cmp n m xs ys (p.whole ∙ sym q.whole) p.zeros q.zeros (subst (λ (c : Bytes). IsNulFree (kept c)) left free) (subst (λ (c : Bytes). IsNulFree (kept c)) right clear))

-- where as many bytes stand in place, they are the same where the places are
pub decides_kept : {a b : Bytes} {n m : ℕ} {xs ys : List ℕ} {r : Bool} → a ≡ Short n xs → b ≡ Short m ys → Fits a → Fits b → n ≡ m → Decides r (xs ≡ ys) → Decides r (kept a ≡ kept b)
decides_kept {a} {b} {n} {m} {xs} {ys} {r} left right f g alike h =
    let p : IsPadded n xs = subst Fits left f in
    let q : IsPadded n ys = subst (λ k. IsPadded k ys) (sym alike) (subst Fits right g) in
    let here : kept a ≡ take n xs = ap (λ (c : Bytes). kept c) left in
    let there : kept b ≡ take n ys = ap (λ (c : Bytes). kept c) right ∙ ap (λ k. take k ys) (sym alike) in
    (λ yes. here ∙ ap (take n) (h.0 yes) ∙ sym there, λ same. h.1 (same_kept n xs ys (p.whole ∙ sym q.whole) p.zeros q.zeros (sym here ∙ same ∙ there)))

-- where more of them stand in place, they are not
pub kept_apart : {a b : Bytes} {n m : ℕ} {xs ys : List ℕ} → a ≡ Short n xs → b ≡ Short m ys → Fits a → Fits b → (n ≡ m → ⊥) → Decides (nat_eq n m) (kept a ≡ kept b)
kept_apart {a} {b} {n} {m} {xs} {ys} left right f g apart =
    let p : IsPadded n xs = subst Fits left f in
    let q : IsPadded m ys = subst Fits right g in
    let here : length (kept a) ≡ n = ap (λ (c : Bytes). length (kept c)) left ∙ length-take n xs ∙ omega (arith, p.few, p.whole) in
    let there : length (kept b) ≡ m = ap (λ (c : Bytes). length (kept c)) right ∙ length-take m ys ∙ omega (arith, q.few, q.whole) in
    (λ alike. absurd (apart ((Decides-eqb n m).0 alike)), λ same. absurd (apart (sym here ∙ ap length same ∙ there)))
