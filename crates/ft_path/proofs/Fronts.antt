-- The number of a text's front: one digit more, how great it is, and that it compares as the text.
use Rattle.std.proofs.Common.{◌≡◌, ◌==◌, ◌||◌, Bool, true, false, length, ◌<◌, ◌≤◌, ◌+◌, ◌*◌, ◌-◌, ◌^◌, ℕ, suc, zero, List, [], ◌∷◌, Option, Some, None, IfSome, is_some, Ordering, drop, unwrap_or, refl, sym, ap, subst, arith, ◌∙◌}
use Rattle.std.proofs.lemmas.Bool.{false≢true}
use Rattle.std.proofs.Math.Nat.{pow-suc, pow-le-pow_right}
use Rattle.std.specs.Slice.{IsItemAt}
use Rattle.std.specs.Borrow.{Bor}
use Rattle.std.specs.Option.{option_copied}
use Rattle.std.proofs.Math.Dec.{ltb}
use Rattle.std.proofs.Math.ListN.{get_or}
use Rattle.std.proofs.lemmas.Bool.{ltb-true, ltb-false}
use Rattle.std.proofs.lemmas.Option.{slice_get-get_or, slice_get_past}
use Rattle.std.specs.List.{slice_get}
use Rattle.std.specs.Ordering.{nat_cmp, is_lt, ordering_then, ordering_reverse, MatchOrdering}
use Rattle.std.specs.declared.cmp.Ordering.TheVariants.{Less, Equal, Greater}
use Rattle.std.specs.Cmp.{ranks}
use Rattle.std.specs.Cmp.Lexicographic.{slice_cmp, nat_list_cmp_total}
use Rattle.std.proofs.lemmas.Cmp.{tied_itself}
use Rattle.std.proofs.lemmas.Map.Lookups.{exact_unsigned}
use Rattle.ft_path.specs.Name.{IsNulFree}
use Rattle.ft_path.specs.Front.{with_digits, front_of, AreBytes}

-- the digit at an index
digit : (count number : ℕ) (bytes : List ℕ) (at : ℕ)
    → with_digits (suc count) number (drop at bytes) ≡ with_digits count (number * 256 + unwrap_or (slice_get bytes at) 0) (drop (suc at) bytes)
digit count number [] zero = ap (λ n. with_digits count n []) (omega arith)
digit count number [] (suc at) = ap (λ n. with_digits count n []) (omega arith)
digit count number (byte ∷ bytes) zero = refl
digit count number (byte ∷ bytes) (suc at) = digit count number bytes at

pub next_digit : (number : ℕ) (bytes : List ℕ) (at : ℕ) → at < 8
    → with_digits (8 - (at + 1)) (number * 256 + unwrap_or (slice_get bytes at) 0) (drop (at + 1) bytes) ≡ with_digits (8 - at) number (drop at bytes)
next_digit number bytes at within =
    let left : 8 - at ≡ suc (8 - (at + 1)) = omega arith in
    let more : suc at ≡ at + 1 = omega arith in
    sym (ap (λ n. with_digits n number (drop at bytes)) left ∙ digit (8 - (at + 1)) number bytes at
    ∙ ap (λ n. with_digits (8 - (at + 1)) (number * 256 + unwrap_or (slice_get bytes at) 0) (drop n bytes)) more)

-- what a look at an index finds
pub found_at : (bytes : List ℕ) (at : ℕ) (r : Option (Bor ℕ)) → IsItemAt bytes at r → option_copied r ≡ slice_get bytes at
found_at bytes at r is = by_place r is.0 is.1
  where
    by_place : (r : Option (Bor ℕ)) → is_some r ≡ ltb at (length bytes) → IfSome r (λ x. x.now ≡ get_or bytes at x.now) → option_copied r ≡ slice_get bytes at
    by_place (Some x) there is = ap Some is ∙ sym (slice_get-get_or bytes at x.now (ltb-true at (length bytes) (sym there)))
    by_place None there is = sym (slice_get_past bytes at (ltb-false at (length bytes) (sym there)))

-- how great a number with so many digits is
pub one_more : (at number byte : ℕ) → number < 256 ^ at → byte < 256 → number * 256 + byte < 256 ^ (at + 1)
one_more at number byte small fits =
    let more : 256 ^ (at + 1) ≡ 256 ^ at * 256 = ap (λ n. 256 ^ n) (omega arith) ∙ pow-suc 256 at in
    subst (λ n. number * 256 + byte < n) (sym more) (omega arith)

pub has_room : (at number byte : ℕ) → at < 8 → number < 256 ^ at → byte < 256 → number * 256 + byte < 2 ^ 64
has_room at number byte within small fits =
    let whole : 256 ^ (at + 1) ≤ 256 ^ 8 = pow-le-pow_right (omega arith) {i = at + 1} {j = 8} (omega arith) in
    let less = one_more at number byte small fits in
    omega arith

-- what began less stays less
below : (count a b : ℕ) (xs ys : List ℕ) → AreBytes xs → AreBytes ys → a < b → with_digits count a xs < with_digits count b ys
below zero a b xs ys p q less = less
below (suc count) a b [] [] p q less = below count (a * 256) (b * 256) [] [] p q (omega arith)
below (suc count) a b [] (y ∷ ys) p q less = below count (a * 256) (b * 256 + y) [] ys p q.1 (omega arith)
below (suc count) a b (x ∷ xs) [] p q less = below count (a * 256 + x) (b * 256) xs [] p.1 q (let fits = p.0 in omega arith)
below (suc count) a b (x ∷ xs) (y ∷ ys) p q less = below count (a * 256 + x) (b * 256 + y) xs ys p.1 q.1 (let fits = p.0 in omega arith)

not_before_nothing : (xs : List ℕ) → slice_cmp nat_cmp xs [] ≡ Less → ⊥
not_before_nothing [] is = false≢true (ap is_lt is)
not_before_nothing (x ∷ xs) is = false≢true (ap is_lt is)

-- the text whose number is less comes first
before : (count a : ℕ) (xs ys : List ℕ) → AreBytes xs → AreBytes ys → with_digits count a xs < with_digits count a ys → slice_cmp nat_cmp xs ys ≡ Less
before zero a xs ys p q less = absurd (omega arith)
before (suc count) a [] [] p q less = absurd (omega arith)
before (suc count) a [] (y ∷ ys) p q less = refl
before (suc count) a (zero ∷ xs) [] p q less =
    absurd (not_before_nothing xs (before count (a * 256) xs [] p.1 q (subst (λ n. with_digits count n xs < with_digits count (a * 256) []) (omega arith) less)))
before (suc count) a (suc x ∷ xs) [] p q less = absurd (let other = below count (a * 256) (a * 256 + suc x) [] xs q p.1 (omega arith) in omega arith)
before (suc count) a (x ∷ xs) (y ∷ ys) p q less = by_first (nat_cmp x y) (ranks x y) (λ n. before count n xs ys p.1 q.1)
  where
    by_first : (r : Ordering) → MatchOrdering r (x < y) (x ≡ y) (y < x) → ((n : ℕ) → with_digits count n xs < with_digits count n ys → slice_cmp nat_cmp xs ys ≡ Less) → ordering_then r (slice_cmp nat_cmp xs ys) ≡ Less
    by_first Less h rest = refl
    by_first Equal h rest = rest (a * 256 + x) (subst (λ n. with_digits count (a * 256 + x) xs < with_digits count (a * 256 + n) ys) (sym h) less)
    by_first Greater h rest = absurd (let other = below count (a * 256 + y) (a * 256 + x) ys xs q.1 p.1 (omega arith) in omega arith)

-- fronts that differ compare as the texts
pub cmp-front : (xs ys : List ℕ) (a b : ℕ) → AreBytes xs → AreBytes ys → a ≡ front_of xs → b ≡ front_of ys → (nat_cmp a b ≡ Equal → ⊥) → nat_cmp a b ≡ slice_cmp nat_cmp xs ys
cmp-front xs ys a b p q left right apart = by_order (nat_cmp a b) refl (ranks a b)
  where
    by_order : (r : Ordering) → nat_cmp a b ≡ r → MatchOrdering r (a < b) (a ≡ b) (b < a) → nat_cmp a b ≡ slice_cmp nat_cmp xs ys
    by_order Less e less = e ∙ sym (before 8 0 xs ys p q (subst (λ n. n < front_of ys) left (subst (λ n. a < n) right less)))
    by_order Equal e same = absurd (apart e)
    by_order Greater e less = e ∙ sym (nat_list_cmp_total.antisymm xs ys ∙ ap ordering_reverse (before 8 0 ys xs q p (subst (λ n. n < front_of xs) right (subst (λ n. b < n) left less))))

both_false : (a b : Bool) → (a || b) ≡ false → (a ≡ false) × (b ≡ false)
both_false true b is = absurd (false≢true (sym is))
both_false false b is = (refl, is)

some_byte : (byte : ℕ) → (byte == 0) ≡ false → 0 < byte
some_byte zero is = absurd (false≢true (sym is))
some_byte (suc byte) is = omega arith

-- texts of no more bytes than were counted, none of them null, are told apart by the number
told : (count a : ℕ) (xs ys : List ℕ) → AreBytes xs → AreBytes ys → IsNulFree xs → IsNulFree ys → length xs ≤ count → length ys ≤ count
    → with_digits count a xs ≡ with_digits count a ys → xs ≡ ys
told zero a [] [] p q f g short small same = refl
told zero a [] (y ∷ ys) p q f g short small same = absurd (omega arith)
told zero a (x ∷ xs) ys p q f g short small same = absurd (omega arith)
told (suc count) a [] [] p q f g short small same = refl
told (suc count) a [] (y ∷ ys) p q f g short small same =
    absurd (let some = some_byte y (both_false _ _ g).0 in let other = below count (a * 256) (a * 256 + y) [] ys p q.1 (omega arith) in omega arith)
told (suc count) a (x ∷ xs) [] p q f g short small same =
    absurd (let some = some_byte x (both_false _ _ f).0 in let other = below count (a * 256) (a * 256 + x) [] xs q p.1 (omega arith) in omega arith)
told (suc count) a (x ∷ xs) (y ∷ ys) p q f g short small same = by_first (nat_cmp x y) (ranks x y)
    (λ n is. told count n xs ys p.1 q.1 (both_false _ _ f).1 (both_false _ _ g).1 (omega arith) (omega arith) is)
  where
    by_first : (r : Ordering) → MatchOrdering r (x < y) (x ≡ y) (y < x) → ((n : ℕ) → with_digits count n xs ≡ with_digits count n ys → xs ≡ ys) → x ∷ xs ≡ y ∷ ys
    by_first Less h rest = absurd (let other = below count (a * 256 + x) (a * 256 + y) xs ys p.1 q.1 (omega arith) in omega arith)
    by_first Equal h rest = λ i. h i ∷ rest (a * 256 + x) (same ∙ ap (λ n. with_digits count (a * 256 + n) ys) (sym h)) i
    by_first Greater h rest = absurd (let other = below count (a * 256 + y) (a * 256 + x) ys xs q.1 p.1 (omega arith) in omega arith)

-- short texts whose fronts are equal are equal
pub cmp-short : (xs ys : List ℕ) (a b : ℕ) → AreBytes xs → AreBytes ys → IsNulFree xs → IsNulFree ys → a ≡ front_of xs → b ≡ front_of ys → nat_cmp a b ≡ Equal
    → length xs ≤ 8 → length ys ≤ 8 → slice_cmp nat_cmp xs ys ≡ Equal
cmp-short xs ys a b p q f g left right tied short small =
    let same : a ≡ b = exact_unsigned a b tied in
    ap (slice_cmp nat_cmp xs) (sym (told 8 0 xs ys p q f g short small (sym left ∙ same ∙ right))) ∙ tied_itself nat_list_cmp_total xs
