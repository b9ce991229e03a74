-- How the words of a text are mixed.
use Rattle.std.proofs.Common.{◌≡◌, ◌≤◌, ◌<◌, ◌+◌, ◌-◌, ◌*◌, ◌/◌, ℕ, zero, suc, List, [], ◌∷◌, ◌++◌, length, take, drop, refl, sym, ap, ◌∙◌, arith}
use Rattle.std.proofs.lemmas.List.{take-append-drop, length-take, drop-drop}
use Rattle.ft_index.specs.Mix.{mix}
use Rattle.ft_path.specs.Front.{with_digits, front_of}
use Rattle.ft_path.specs.Hashed.{with_words, hashed}
use Rattle.ft_path.specs.Kept.{AreZeros, IsPadded}

-- zeros behind its end change no digit of a text
digits_padded : (count number : ℕ) (text zeros : List ℕ) → AreZeros zeros → with_digits count number text ≡ with_digits count number (text ++ zeros)
digits_padded zero number text zeros none = refl
digits_padded (suc count) number [] [] none = refl
digits_padded (suc count) number [] (z ∷ zs) none =
    digits_padded count (number * 256) [] zs none.1 ∙ ap (λ n. with_digits count n zs) (let nothing = none.0 in omega (arith, nothing))
digits_padded (suc count) number (byte ∷ bytes) zeros none = digits_padded count (number * 256 + byte) bytes zeros none

-- what is left of zeros is zeros
zeros_left : (n : ℕ) (zeros : List ℕ) → AreZeros zeros → AreZeros (drop n zeros)
zeros_left zero zeros none = none
zeros_left (suc n) [] none = none
zeros_left (suc n) (z ∷ zs) none = zeros_left n zs none.1

-- what is left of a text with zeros behind it is such a text
record IsLeft (n : ℕ) (text zeros : List ℕ) : Type 0 where
  text' : List ℕ
  zeros' : List ℕ
  left : drop n text ≡ text'
  both : drop n (text ++ zeros) ≡ text' ++ zeros'
  none : AreZeros zeros'

left_of : (n : ℕ) (text zeros : List ℕ) → AreZeros zeros → IsLeft n text zeros
left_of zero text zeros none = record { text' = text; zeros' = zeros; left = refl; both = refl; none = none }
left_of (suc n) [] zeros none = record { text' = []; zeros' = drop (suc n) zeros; left = refl; both = refl; none = zeros_left (suc n) zeros none }
left_of (suc n) (byte ∷ bytes) zeros none =
    let rest = left_of n bytes zeros none in
    record { text' = rest.text'; zeros' = rest.zeros'; left = rest.left; both = rest.both; none = rest.none }

-- and no word of it
words_padded : (count hash : ℕ) (text zeros : List ℕ) → AreZeros zeros → with_words count hash text ≡ with_words count hash (text ++ zeros)
words_padded zero hash text zeros none = refl
words_padded (suc count) hash text zeros none =
    let rest = left_of 8 text zeros none in
    let next = mix hash (front_of text) in
    ap (with_words count next) rest.left
    ∙ words_padded count next rest.text' rest.zeros' rest.none
    ∙ sym (ap (with_words count next) rest.both)
    ∙ ap (λ word. with_words count (mix hash word) (drop 8 (text ++ zeros))) (digits_padded 8 0 text zeros none)

-- the hash of a text in a place is made of the words of the place
pub hashed_padded : (seed len : ℕ) (place : List ℕ) → IsPadded len place → hashed seed (take len place) ≡ with_words (len / 8 + 1) (mix seed len) place
unfolding hashed
hashed_padded seed len place p =
    let count : length (take len place) ≡ len = length-take len place ∙ omega (arith, p.few, p.whole) in
    ap (λ n. with_words (n / 8 + 1) (mix seed n) (take len place)) count
    ∙ words_padded (len / 8 + 1) (mix seed len) (take len place) (drop len place) p.zeros
    ∙ ap (with_words (len / 8 + 1) (mix seed len)) (take-append-drop len place)

-- the hash of a text is made of its words
pub hashed_begins : (seed : ℕ) (bytes : List ℕ) → with_words (length bytes / 8 + 1) (mix seed (length bytes)) bytes ≡ hashed seed bytes
unfolding hashed
hashed_begins seed bytes = refl

-- the next word
pub next_word : (end word hash : ℕ) (bytes : List ℕ) → word < end
    → with_words (end - (word + 1)) (mix hash (front_of (drop (8 * word) bytes))) (drop (8 * (word + 1)) bytes) ≡ with_words (end - word) hash (drop (8 * word) bytes)
next_word end word hash bytes within =
    let one : end - word ≡ suc (end - (word + 1)) = omega arith in
    let further : 8 * word + 8 ≡ 8 * (word + 1) = omega arith in
    sym (ap (λ n. with_words n hash (drop (8 * word) bytes)) one
    ∙ ap (with_words (end - (word + 1)) (mix hash (front_of (drop (8 * word) bytes)))) (drop-drop 8 (8 * word) bytes ∙ ap (λ n. drop n bytes) further))

-- the first word of those in a place, the first two, and all three
pub hashed_one : (seed len : ℕ) (place : List ℕ) → IsPadded len place → len < 8 → mix (mix seed len) (front_of place) ≡ hashed seed (take len place)
hashed_one seed len place p less =
    let one : len / 8 + 1 ≡ 1 = omega arith in
    sym (hashed_padded seed len place p ∙ ap (λ n. with_words n (mix seed len) place) one)

pub hashed_two : (seed len : ℕ) (place : List ℕ) → IsPadded len place → 8 ≤ len → len < 16
    → mix (mix (mix seed len) (front_of place)) (front_of (drop 8 place)) ≡ hashed seed (take len place)
hashed_two seed len place p more less =
    let two : len / 8 + 1 ≡ 2 = omega arith in
    sym (hashed_padded seed len place p ∙ ap (λ n. with_words n (mix seed len) place) two)

pub hashed_three : (seed len : ℕ) (place : List ℕ) → IsPadded len place → 16 ≤ len
    → mix (mix (mix (mix seed len) (front_of place)) (front_of (drop 8 place))) (front_of (drop 16 place)) ≡ hashed seed (take len place)
hashed_three seed len place p more =
    let three : len / 8 + 1 ≡ 3 = let few = p.few in omega arith in
    sym (hashed_padded seed len place p ∙ ap (λ n. with_words n (mix seed len) place) three
    ∙ ap (λ bytes. mix (mix (mix (mix seed len) (front_of place)) (front_of (drop 8 place))) (front_of bytes)) (drop-drop 8 8 place))

-- what is mixed of numbers that are known to be others
pub mix_along : {r a b x y : ℕ} → r ≡ mix a b → a ≡ x → b ≡ y → r ≡ mix x y
mix_along {r} {a} {b} {x} {y} is left right = is ∙ ap (λ n. mix n b) left ∙ ap (mix x) right
